-- Document 01's examples, proved.
pub mod Examples

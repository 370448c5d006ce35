-- Document 01's examples as statements.
pub mod Cases

-- The lines of a table, and what putting one takes.
pub mod Lines
pub mod Listed

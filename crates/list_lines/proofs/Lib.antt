-- Laws of the lines of a table.
pub mod Lines
pub mod Numbered
pub mod Examples

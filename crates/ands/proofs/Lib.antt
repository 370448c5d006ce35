-- Laws of the form of an AND's pairs.
pub mod Forms

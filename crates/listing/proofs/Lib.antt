-- Laws that the proofs of listing cite.
pub mod Loops
pub mod TableText
pub mod Examples

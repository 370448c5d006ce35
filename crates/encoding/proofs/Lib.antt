-- Laws that the proofs of encoding cite.
pub mod Encoding

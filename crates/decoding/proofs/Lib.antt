-- Laws that the proofs of decoding cite.
pub mod Decoding

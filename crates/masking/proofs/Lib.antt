-- Laws that the proofs of masking cite.
pub mod Masked

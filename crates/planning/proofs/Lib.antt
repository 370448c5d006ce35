-- Laws that the proofs of sizing cite.
pub mod Planning

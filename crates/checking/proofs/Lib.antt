-- Laws that the proofs of checking cite.
mod Checks

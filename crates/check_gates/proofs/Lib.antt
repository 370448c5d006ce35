-- Laws that the proofs of checking gates cite.
mod Gates

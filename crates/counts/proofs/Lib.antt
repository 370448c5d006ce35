-- Laws that the proofs of counts cite.
mod Counting

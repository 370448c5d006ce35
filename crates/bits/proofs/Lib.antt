-- Laws that the proofs of reading bits cite.
mod Scan

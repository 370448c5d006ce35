-- Laws of pairs in both runs.
pub mod Pairs

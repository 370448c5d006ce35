-- Laws of text that callers above cite.
pub mod Writing

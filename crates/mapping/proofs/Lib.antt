-- Laws of mapping's answer.
pub mod Mapping

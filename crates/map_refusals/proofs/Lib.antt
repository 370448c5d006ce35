-- Laws of the refusals of mapping.
pub mod Faults

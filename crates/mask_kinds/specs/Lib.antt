-- The kinds' bytes of a masked gate.
pub mod Kinds

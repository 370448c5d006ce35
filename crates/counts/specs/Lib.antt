-- The counts of three kinds of gates.
pub mod Three

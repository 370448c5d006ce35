-- Laws that the proofs of the sizes program's line cite.
pub mod Largest
pub mod Line

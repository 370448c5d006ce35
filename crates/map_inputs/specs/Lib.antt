-- What the inputs' part of mapping takes and gives.
pub mod Flipping

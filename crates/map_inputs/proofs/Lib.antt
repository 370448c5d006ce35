-- Laws of the inputs' flips, and of both runs begun.
pub mod Flipping
pub mod Beginning

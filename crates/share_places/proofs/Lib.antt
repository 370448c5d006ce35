-- Laws of where shares are.
pub mod Located
pub mod Placing
pub mod Turns

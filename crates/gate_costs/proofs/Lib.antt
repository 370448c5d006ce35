-- Laws of what a gate costs and draws.
pub mod Figures

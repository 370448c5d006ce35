-- The figures of a plan, and what the forecast's line promises.
pub mod Figures
pub mod Lines

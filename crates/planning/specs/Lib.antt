-- Refusals 1 to 7, and what planning promises.
pub mod Maskable
pub mod Plans

-- Sums and rows that run on.
mod InSums
mod Rows

-- A table in words.
pub mod Listing

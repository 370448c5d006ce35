-- What the steps of masking need and promise.
pub mod Input

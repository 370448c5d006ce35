-- What the free share of probes takes and gives.
pub mod Seeing

-- What a scan of bits gives.
pub mod Scan

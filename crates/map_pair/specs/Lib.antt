-- What running a pair of shares on takes.
pub mod Crossing

-- What running pairs of shares on takes and leaves.
pub mod Pairing

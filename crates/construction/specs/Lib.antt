-- The masking construction: shares and pairs, the AND gadget, wires in order, encoding and decoding, what the calls promise, and
-- the forecast from counts.
pub mod Shares
pub mod Gadgets
pub mod Wires
pub mod Codes
pub mod Says
pub mod Told
pub mod Counts
pub mod PinMarks

-- Laws of the wires of shares, the bytes of gates, and the pieces of a masked gate.
pub mod ShareWires
pub mod Bytes
pub mod Pieces

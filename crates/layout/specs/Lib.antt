-- How the code keeps the wires of shares, and the new wires of a masked gate in pieces.
pub mod Layout

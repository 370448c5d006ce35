-- Laws of the kinds' bytes of a masked gate.
pub mod GateKinds

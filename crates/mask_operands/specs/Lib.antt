-- What writing the operands of a gate's new wires takes.
pub mod OperandRoom

-- Laws of a gate's value, and the invariant of the gate loop.
pub mod Gate
pub mod Running

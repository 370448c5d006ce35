-- What the steps of a run need and promise.
pub mod Running

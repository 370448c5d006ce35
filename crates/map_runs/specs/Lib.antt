-- What the work of mapping takes and leaves.
pub mod Working

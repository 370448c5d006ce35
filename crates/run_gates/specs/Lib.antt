-- What running gates needs and promises.
pub mod RunGates

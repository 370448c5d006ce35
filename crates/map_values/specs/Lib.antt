-- What running one masked gate on takes.
pub mod Driving

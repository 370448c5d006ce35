-- Where the code keeps every plain wire's shares.
pub mod Located

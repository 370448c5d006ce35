-- What the functions that tell the ANDs apart meet.
pub mod Forms

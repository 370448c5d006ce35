-- Laws of the parts of a masked table's bytes.
pub mod Stretches

-- The parts of a masked table's bytes.
pub mod AfterSizes

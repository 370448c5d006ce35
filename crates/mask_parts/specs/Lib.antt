-- The plain gates that a part of the masked table is written for.
pub mod Stretch

-- Laws that the proofs of marking cite.
pub mod Origins
pub mod Finding
pub mod Carrying

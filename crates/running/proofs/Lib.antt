-- Laws that the proofs of running cite.
pub mod RunFault
pub mod RunTable

-- What writing the operands of an AND's pairs takes.
pub mod PairRoom

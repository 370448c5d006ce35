-- What shares that stand before the next wire give, one gate that runs on, and gates that run on in pieces.
pub mod Before
pub mod Gates
pub mod InPieces

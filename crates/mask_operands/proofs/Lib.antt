-- The bytes of an OR, and what was written of a plain gate.
mod OrBytes
mod Written

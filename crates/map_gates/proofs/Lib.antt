-- Laws of a gate in both runs, and of all gates.
mod And
mod Or
mod ByKind
mod AllGates

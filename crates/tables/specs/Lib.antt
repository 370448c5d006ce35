-- Gate tables: refusals, the format, runs, packed tapes, what checking and running promise, and how many gates there are of each kind.
pub mod Refusals
pub mod Refusing
pub mod Tables
pub mod Kinds
pub mod Runs
pub mod Packing
pub mod Says
pub mod Counted
pub mod Inside

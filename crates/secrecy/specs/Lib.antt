-- Free shares and the mapped tape, demands 2 and 3 as statements, also for packed tapes, and what mapping promises; Both is for use
-- inside the library.
pub mod Maps
pub mod Claims
pub mod Packed
pub mod Laws
pub mod Says
pub mod Assurance
pub mod Both

-- What the sizes program's line promises, and what its parts need.
pub mod Lines
pub mod Inside

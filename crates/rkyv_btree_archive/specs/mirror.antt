-- Facts of the code alone: the lists that building reserves, and the children that it writes one after another.
pub mod Ended
pub mod Passing
pub mod Rows
pub mod Scratch
pub mod InOrder
pub mod Source
pub mod UntilError

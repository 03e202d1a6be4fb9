-- Functions that follow the code.
pub mod Compared
pub mod Counted
pub mod Merged

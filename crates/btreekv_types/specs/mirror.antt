-- Functions that follow the code.
pub mod Differing

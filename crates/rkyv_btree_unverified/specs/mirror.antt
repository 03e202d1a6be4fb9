-- Functions that follow the code.
pub mod Faultless
pub mod Many
pub mod Passes
pub mod Sought
pub mod Walked

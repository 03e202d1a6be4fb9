-- Functions that follow the code.
pub mod Found
pub mod Lasting
pub mod Walking

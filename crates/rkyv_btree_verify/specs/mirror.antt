-- Functions that mirror the code of the check.
pub mod Check
pub mod Counted
pub mod Maps

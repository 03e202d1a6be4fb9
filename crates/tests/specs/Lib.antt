-- What contracts of tests name.
pub mod Coded
pub mod Lookups

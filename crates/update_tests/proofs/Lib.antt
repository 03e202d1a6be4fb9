-- What is found after changes of numbers.
pub mod Found

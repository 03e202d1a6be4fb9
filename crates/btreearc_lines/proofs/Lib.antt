pub mod Begun
pub mod Digits
pub mod Once
pub mod Pairs
pub mod ReadingLines
pub mod Splitting
pub mod Taken

-- The definitions of updates.
pub mod Natives
pub mod Updated
pub mod Differences
pub mod Written
pub mod mirror

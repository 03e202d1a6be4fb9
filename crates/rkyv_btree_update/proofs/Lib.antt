-- The lemmas of updates.
pub mod Lent
pub mod Changed
pub mod Counted
pub mod Merged
pub mod Quiet
pub mod Meant
pub mod Writes
pub mod Compared
pub mod Ends

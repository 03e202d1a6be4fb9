-- What walks promise, the laws of it, and functions that mirror the code.
pub mod Below
pub mod Bounds
pub mod Ends
pub mod EntryPlaces
pub mod Nodes
pub mod Paths
pub mod Remaining
pub mod Search
pub mod Visit
pub mod WalkBetween
pub mod laws
pub mod mirror

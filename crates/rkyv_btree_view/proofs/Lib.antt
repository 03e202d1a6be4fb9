-- The lemmas of views.
pub mod Agreed
pub mod Bounds
pub mod Drained
pub mod Held
pub mod Lasts
pub mod Lookups
pub mod ManyFound
pub mod NativeFound
pub mod Ordered
pub mod LookedUp
pub mod Promised
pub mod Remaining
pub mod Sets

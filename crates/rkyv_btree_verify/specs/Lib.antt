pub mod Refusals
pub mod Claims
pub mod Map
pub mod Opening
pub mod mirror

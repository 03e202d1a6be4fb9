pub mod Bounds
pub mod Natives

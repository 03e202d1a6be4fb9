-- Laws that types of this crate cite.
pub mod Walked

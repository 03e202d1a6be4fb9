-- The definitions of maps and sets whose keys increase.
pub mod Stays
pub mod Migrated
pub mod Strict
pub mod mirror
pub mod StrictOpening
pub mod Prefix

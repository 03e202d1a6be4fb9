-- What callers may cite of the definitions.
pub mod Visits

-- The lemmas of maps and sets whose keys increase.
pub mod Checked
pub mod Ordered
pub mod Stays
pub mod Migrated
pub mod Opened
pub mod PrefixOrder

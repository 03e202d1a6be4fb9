-- The definitions over which views are stated.
pub mod Items
pub mod Iter
pub mod Keys
pub mod Lookup
pub mod Lookups
pub mod ManyLeft
pub mod ManyLookups
pub mod Map
pub mod Native
pub mod Query
pub mod Range
pub mod Ranges
pub mod Set
pub mod SameAs
pub mod SideBySide
pub mod View
pub mod laws

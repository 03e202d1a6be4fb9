-- What lookups promise in bytes that nobody has validated.
pub mod Ends
pub mod EntriesFrom
pub mod Given
pub mod Iterating
pub mod Left
pub mod Lookups
pub mod Steps
pub mod UnverifiedIter
pub mod UnverifiedKeys
pub mod UnverifiedLookups
pub mod UnverifiedLookupsLeft
pub mod UnverifiedRange
pub mod UnverifiedRangeKeys
pub mod Walks
pub mod Ways
pub mod laws
pub mod mirror

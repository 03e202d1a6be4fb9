-- What lookups promise in a source of bytes that isn't read whole.
pub mod Cached
pub mod Known
pub mod LastEntry
pub mod Reading
pub mod Reads
pub mod SourceRange
pub mod Sourced
pub mod laws
pub mod mirror

-- The definitions of files that state the type of their map.
pub mod TypeNames
pub mod Stripping
pub mod TypeHeader
pub mod TypedWriting
pub mod TypedOpening
pub mod TypedSources
pub mod TypedMaking

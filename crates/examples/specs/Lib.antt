pub mod Editing
pub mod Headline
pub mod RoundTrip
pub mod Strict
pub mod Version
pub mod Whole

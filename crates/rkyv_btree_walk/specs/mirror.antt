-- Functions and facts that mirror the code of a walk.
pub mod Along
pub mod Below
pub mod Many
pub mod Node
pub mod Path
pub mod Range
pub mod Search

-- Lemmas of typed files.
pub mod Stripped
pub mod Headers
pub mod Built
pub mod Shown
pub mod Names

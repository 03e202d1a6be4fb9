-- The definitions over which types of one's own are stated.
pub mod PlainValues
pub mod laws

pub mod Bytes
pub mod ItemTypes
pub mod Items
pub mod Optional
pub mod Pairs
pub mod Triples
pub mod Words
pub mod laws

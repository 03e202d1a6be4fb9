-- The definitions over which native values of archived ones are stated.
pub mod Deserializing
pub mod Maps
pub mod RoundTrip
pub mod Sets
pub mod Sizes
pub mod StdMaps
pub mod Vectors
pub mod Whole
pub mod laws

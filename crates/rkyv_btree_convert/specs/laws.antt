-- What native maps, pairs and tuples owe, by what their parts owe.
pub mod Arrays
pub mod Maps
pub mod Options
pub mod Pairs
pub mod Sets
pub mod Tuples
pub mod Vectors

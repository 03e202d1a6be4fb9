-- What the bytes of types mean that are made of another one, and those of floating-point numbers and of numbers of 128 bits.
pub mod ArrayNatives
pub mod Arrays
pub mod Elements
pub mod Floats
pub mod FrontView
pub mod Joined
pub mod Option
pub mod OptionNatives
pub mod TupleInPlace
pub mod TupleNatives
pub mod Tuples
pub mod VecLeft
pub mod VectorNatives
pub mod Vectors
pub mod Wide
pub mod laws

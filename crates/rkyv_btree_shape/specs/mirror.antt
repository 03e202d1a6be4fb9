-- Facts of the code alone: how the children of a tree come, one after another.
pub mod Filled
pub mod Pairs

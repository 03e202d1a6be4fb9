-- What comparisons of views cite of the definitions.
pub mod Comparing
pub mod Cuts
pub mod Increasing
pub mod SameAs

-- What is known of maps of numbers whose values are edited.
pub mod Numbers
pub mod Adding
pub mod Calling
pub mod RoundTrip
pub mod LookedUp
pub mod Owned
pub mod Concluded

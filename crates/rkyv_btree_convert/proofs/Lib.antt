-- The lemmas of native values.
pub mod Puts
pub mod Made
pub mod LastWins
pub mod AtOnce
pub mod Opened
pub mod StdMaps
pub mod Units
pub mod RoundTrip
pub mod Sorted
pub mod SmallNodes
pub mod VectorsMade

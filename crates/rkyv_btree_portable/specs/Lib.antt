-- What archived values are: bytes and numbers, places, meanings of types, refusals, and the types themselves.
pub mod Bytes
pub mod Standing
pub mod Rounding
pub mod Kind
pub mod Refusing
pub mod Plain
pub mod Scalars
pub mod InPlace
pub mod Natives
pub mod NonZeros
pub mod Views
pub mod RefusalText
pub mod Text
pub mod ByteStrings
pub mod Entry
pub mod laws

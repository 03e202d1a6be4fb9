-- What is proved of these definitions, as far as an archived type or a crate above cites it.
pub mod Choices
pub mod Standing
pub mod Holding
pub mod Rounding
pub mod Numbers
pub mod Refusing
pub mod Plain
pub mod Scalars
pub mod Natives
pub mod Positive
pub mod NonZeros
pub mod Views
pub mod EntryLaws
pub mod EntryRefusals
pub mod InPlace
pub mod TextLaws
pub mod ByteStringLaws

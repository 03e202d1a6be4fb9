-- What is proved of these definitions, as far as an archived type or a crate above cites it.
pub mod ArrayComparing
pub mod ArrayLaws
pub mod ElementLaws
pub mod FloatLaws
pub mod JoinedLaws
pub mod OptionComparing
pub mod OptionLaws
pub mod OptionRefusals
pub mod TupleComparing
pub mod TupleInPlaceLaws
pub mod TupleLaws
pub mod TupleRefusals
pub mod VectorComparing
pub mod VectorLaws
pub mod VectorRefusals
pub mod WideLaws

-- What is proved of views of vectors and of arrays.
pub mod ArrayCompared
pub mod ArrayElements
pub mod VectorViews

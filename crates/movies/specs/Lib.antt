pub mod Movie

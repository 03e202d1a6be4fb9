-- What building by both builders says.
pub mod Both

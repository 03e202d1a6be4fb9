-- Laws of what the types of this room keep.
pub mod Walking

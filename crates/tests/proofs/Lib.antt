-- What the walks know of the archives that they are over, and what equal lists are.
pub mod Archives
pub mod Drained
pub mod Found

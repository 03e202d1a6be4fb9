-- The definitions over which writes in place are stated.
pub mod Put
pub mod Alone
pub mod Places
pub mod Lent
pub mod Looking
pub mod Along
pub mod Cursor
pub mod Starting
pub mod Calls
pub mod Visits
pub mod Apart

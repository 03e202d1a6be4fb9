-- The lemmas of writes in place.
pub mod Alike
pub mod Puts
pub mod Same
pub mod Kept
pub mod Trees
pub mod Maps
pub mod Apart
pub mod Lending
pub mod Standing
pub mod Entered
pub mod Found
pub mod Setting
pub mod Cursors
pub mod Visiting

pub mod Archive
pub mod Commands
pub mod Opening
pub mod Sessions
pub mod Setting
pub mod Streaming

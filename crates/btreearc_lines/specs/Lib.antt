pub mod Faults
pub mod Grammar
pub mod Headings
pub mod Reading
pub mod Words

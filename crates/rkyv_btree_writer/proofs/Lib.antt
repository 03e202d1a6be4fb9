pub mod WriteRuns
pub mod HeldNumbers
pub mod Archiving
pub mod TextArchived
pub mod BytesArchived
pub mod FieldRuns
pub mod StdWrites
pub mod Walks

pub mod Rows
pub mod RowsWritten
pub mod Building

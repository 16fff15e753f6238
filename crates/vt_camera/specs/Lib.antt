pub mod Paths
pub mod Rows
pub mod RowParts
pub mod PathText
pub mod PathFlaws
pub mod PathReading
pub mod Ways

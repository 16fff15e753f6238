pub mod Answering
pub mod Passes
pub mod Scanning
pub mod Judging
pub mod Rows
pub mod Written
pub mod Staging

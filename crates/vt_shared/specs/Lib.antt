pub mod Given
pub mod Owners
pub mod Readers

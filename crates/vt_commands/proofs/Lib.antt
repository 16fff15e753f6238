pub mod Choosing
pub mod Sound
pub mod Clauses
pub mod Waits

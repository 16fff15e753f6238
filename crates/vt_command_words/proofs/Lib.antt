pub mod Spelled
pub mod Asked
pub mod Refusals

pub mod Tallies
pub mod Loads
pub mod Places
pub mod Changes
pub mod Residencies
pub mod Levels
pub mod Needs

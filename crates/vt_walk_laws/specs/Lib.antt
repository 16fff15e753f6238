pub mod PassCounts
pub mod Stamped
pub mod Walked

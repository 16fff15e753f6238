pub mod Corners
pub mod Blends
pub mod Counting

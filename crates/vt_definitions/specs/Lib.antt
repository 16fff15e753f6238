pub mod Dealing
pub mod Depths
pub mod Limits
pub mod Numbers
pub mod Sides
pub mod Texels
pub mod Tiles

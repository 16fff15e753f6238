pub mod Freeing
pub mod Handing
pub mod Keeping
pub mod Owning
pub mod Tiles

pub mod Drawing
pub mod Tiling
pub mod Making
pub mod Upgrading
pub mod PlainFiles
pub mod PlainGroups
pub mod SeenTextures
pub mod SeenPictures

pub mod Lines
pub mod Stored
pub mod Tiles
pub mod WideStores
pub mod Widening
pub mod Writing
pub mod TileRows
pub mod AddedPages
pub mod StripTiles
pub mod StripStores
pub mod OneStep
pub mod StripSteps
pub mod ReadStrips
pub mod RoundRows
pub mod Rounds
pub mod StripLevels
pub mod Written
mod LevelRows
mod LevelChain

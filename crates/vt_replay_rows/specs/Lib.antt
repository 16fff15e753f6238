pub use Rattle.vt_pictures.specs.Names
pub use Rattle.vt_pictures.specs.Pictures
pub use Rattle.vt_pictures.specs.Replays
pub use Rattle.vt_pictures.specs.Scenes
pub mod ReplayLookups
pub mod Following
pub mod Trying

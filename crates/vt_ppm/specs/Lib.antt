pub use Rattle.vt_definitions.specs.Depths
pub use Rattle.vt_definitions.specs.Limits
pub use Rattle.vt_definitions.specs.Sides
pub use Rattle.vt_definitions.specs.Texels
pub use Rattle.vt_definitions.specs.Tiles
pub use Rattle.vt_outside.specs.Counts
pub use Rattle.vt_outside.specs.Files
pub use Rattle.vt_outside.specs.declared as OutsideTypes
pub mod Image
pub mod Format
pub mod Flaws
pub mod Header
pub mod Picture
pub mod Reads
pub mod Refusals
pub mod Samples
pub mod Strips
pub mod StripPlaces

pub use Rattle.vt_pages.specs.Limits
pub use Rattle.vt_pages.specs.Lookups
pub use Rattle.vt_pages.specs.Pages
pub use Rattle.vt_pages.specs.Shape
pub mod Wants
pub mod Ranks
pub mod Blocks

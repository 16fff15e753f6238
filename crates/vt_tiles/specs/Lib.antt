pub use Rattle.vt_outside.specs.Files
pub use Rattle.vt_pages.specs.Depths
pub use Rattle.vt_pages.specs.Laws as PagesLaws
pub use Rattle.vt_pages.specs.Pages
pub use Rattle.vt_pages.specs.Shape
pub use Rattle.vt_pages.specs.Texels
pub mod Format
pub mod Laws
pub mod StoreViews
pub mod Places
pub mod Refusals
pub mod TileLines
pub mod Made

pub use Rattle.vt_pages.specs.Depths
pub use Rattle.vt_pages.specs.Laws
pub use Rattle.vt_pages.specs.Lookups as PagesLookups
pub use Rattle.vt_pages.specs.Pages
pub use Rattle.vt_pages.specs.Shape
pub use Rattle.vt_text.specs.Limits
pub mod Changes
pub mod Journals
pub mod Lookups
pub mod JournalText
pub mod Passes
pub mod Kept
pub mod JournalFlaws
pub mod JournalReading
pub mod Texts
pub mod Following
pub mod Fronts

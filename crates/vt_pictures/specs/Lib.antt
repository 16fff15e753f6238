pub use Rattle.vt_draw.specs.Lookups as DrawLookups
pub use Rattle.vt_draw.specs.Paths
pub use Rattle.vt_draw.specs.Rows
pub use Rattle.vt_draw.specs.Shots
pub use Rattle.vt_draw.specs.declared as DrawTypes
pub use Rattle.vt_journal.specs.Changes
pub use Rattle.vt_journal.specs.Following
pub use Rattle.vt_journal.specs.JournalText
pub use Rattle.vt_journal.specs.Lookups
pub use Rattle.vt_journal.specs.declared as JournalTypes
pub use Rattle.vt_pages.specs.Depths
pub mod Scenes
pub mod Replays
pub mod Evidence
pub mod FilterLaws
pub mod NearestPixels
pub mod NearestPlain
pub mod Names
pub mod Pictures

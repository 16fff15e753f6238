pub use Rattle.vt_journal.specs.Changes
pub use Rattle.vt_journal.specs.Depths
pub use Rattle.vt_journal.specs.Kept as JournalKept
pub use Rattle.vt_journal.specs.Lookups
pub use Rattle.vt_journal.specs.Pages
pub use Rattle.vt_journal.specs.Shape
pub use Rattle.vt_journal.specs.declared as JournalTypes
pub mod Views
pub mod Kept

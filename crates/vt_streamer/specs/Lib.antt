pub use Rattle.vt_grace.specs.Banks as GraceBanks
pub use Rattle.vt_grace.specs.Contents
pub use Rattle.vt_grace.specs.Giving
pub use Rattle.vt_grace.specs.Notes
pub use Rattle.vt_grace.specs.Places
pub use Rattle.vt_grace.specs.Sound
pub use Rattle.vt_grace.specs.Values
pub use Rattle.vt_grace.specs.WriterViews
pub use Rattle.vt_grace.specs.declared as GraceTypes
pub use Rattle.vt_table.specs.JournalTypes
pub use Rattle.vt_table.specs.Views as TableViews
pub mod Looks
pub mod Banks
pub mod Fills
pub mod Frees
pub mod Views
pub mod Latests
pub mod Kept

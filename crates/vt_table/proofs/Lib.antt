pub use Rattle.vt_journal.proofs.Versions
pub mod Rooms
pub mod Entries
pub mod TileWords
pub mod Lawful
pub mod Keeping
pub mod Holding
pub mod FewChanges

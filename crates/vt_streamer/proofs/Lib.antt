pub use Rattle.vt_table.proofs.FewChanges
pub use Rattle.vt_table.proofs.Lawful
pub use Rattle.vt_table.proofs.TileWords
pub use Rattle.vt_table.proofs.Versions
pub mod Looking
mod Lasting
mod Leading
mod Filling
mod Freeing
mod Keeping
mod Sparing

pub use Rattle.vt_journal.proofs.Versions
pub use Rattle.vt_requests.proofs.Entries
pub use Rattle.vt_requests.proofs.NearestNotes
pub use Rattle.vt_requests.proofs.Refilled
pub use Rattle.vt_streamer.proofs.TileWords
pub mod Applying
pub mod Taking
mod Making
mod Lasting
mod Puts

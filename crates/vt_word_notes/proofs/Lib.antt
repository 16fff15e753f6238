pub use Rattle.vt_streaming.proofs.Entries
mod Brought
pub mod Handed
pub mod Replayed
pub mod Growing

pub use Rattle.vt_pass_pool.proofs.Handed
mod Listed
mod Fills
mod Replaying
mod PartlyRead
pub mod Idle
mod Placing
pub mod Preparing
pub mod Finishing
pub mod HeldRows

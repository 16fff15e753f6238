pub use Rattle.vt_swap_log.proofs.Lawful
pub use Rattle.vt_swap_log.proofs.Prefixes
pub mod Turning
pub mod Published

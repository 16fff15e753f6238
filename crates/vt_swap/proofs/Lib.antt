pub use Rattle.vt_swap_steps.proofs.Lawful
pub use Rattle.vt_swap_steps.proofs.Prefixes
pub mod Saying
pub mod Entering
pub mod Bringing
pub mod Shown

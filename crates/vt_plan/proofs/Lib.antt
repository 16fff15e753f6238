pub use Rattle.vt_feedback.proofs.Lines
pub use Rattle.vt_feedback.proofs.OrderedLists
pub use Rattle.vt_feedback.proofs.Parents
pub use Rattle.vt_feedback.proofs.Steps
pub mod ListLemmas
pub mod PlanLemmas

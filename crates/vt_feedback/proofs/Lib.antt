pub use Rattle.vt_pages.proofs.Lines
pub use Rattle.vt_pages.proofs.Parents
pub use Rattle.vt_pages.proofs.Steps
pub mod RankLemmas
pub mod Marks
pub mod OrderedLists

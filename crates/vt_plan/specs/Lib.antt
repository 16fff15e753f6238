pub use Rattle.vt_feedback.specs.Limits
pub use Rattle.vt_feedback.specs.Lookups
pub use Rattle.vt_feedback.specs.Pages
pub use Rattle.vt_feedback.specs.Shape
pub use Rattle.vt_feedback.specs.Wants
pub use Rattle.vt_feedback.specs.declared as FeedbackTypes
pub mod PageLists
pub mod Missing
pub mod Entries
pub mod Orders
pub mod Views
pub mod Plans

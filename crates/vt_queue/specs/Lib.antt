pub use Rattle.vt_definitions.specs.Limits
pub mod PassViews
pub mod Orders
pub mod Steps
pub mod Rules
pub mod Queues

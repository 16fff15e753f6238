pub use Rattle.vt_plan.specs.Missing
pub use Rattle.vt_plan.specs.Orders
pub use Rattle.vt_plan.specs.PageLists
pub use Rattle.vt_plan.specs.declared as PlanTypes
pub mod Batches
pub mod Kept
pub mod Stamps

pub use Rattle.vt_queue.specs.Limits
pub use Rattle.vt_queue.specs.Orders
pub use Rattle.vt_queue.specs.PassViews
pub use Rattle.vt_queue.specs.Queues
pub use Rattle.vt_queue.specs.Steps
pub use Rattle.vt_queue.specs.declared as QueueTypes
pub use Rattle.vt_tiles.specs.Format
pub use Rattle.vt_tiles.specs.Shape
pub use Rattle.vt_tiles.specs.StoreViews
pub mod Readings
pub mod Loads
pub mod Loaders
pub mod Results
pub mod Together
pub mod QueuedLoaders
pub mod Rounds
pub mod Streamed

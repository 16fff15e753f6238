pub use Rattle.vt_queue.proofs.Gathered
pub use Rattle.vt_queue.proofs.OrderLemmas
pub mod Loading
pub mod Answering
pub mod Dealing
pub mod Gathering
pub mod Streaming

pub use Rattle.vt_machine.proofs.AnyOrder
pub use Rattle.vt_machine.proofs.Settled
pub use Rattle.vt_machine.proofs.Streaming

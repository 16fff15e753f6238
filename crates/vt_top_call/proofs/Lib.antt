pub use Rattle.vt_commands.proofs.Choosing
pub use Rattle.vt_commands.proofs.Clauses

pub use Rattle.vt_page_table.proofs.Handed
pub use Rattle.vt_schedules.proofs.Sharing
mod Keeping

pub use Rattle.vt_swap_log.specs.Caches
pub use Rattle.vt_swap_log.specs.Heads
pub use Rattle.vt_swap_log.specs.Logs
pub use Rattle.vt_swap_log.specs.Slots
pub use Rattle.vt_swap_log.specs.LogWords
pub use Rattle.vt_swap_log.specs.declared as LogTypes
pub mod Entries
pub mod Tables
pub mod Rules

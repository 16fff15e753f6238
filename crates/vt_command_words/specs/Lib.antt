pub use Rattle.vt_text.specs.Numbers as TextNumbers
pub mod Arguments
pub mod Reading
pub mod Numbers
pub mod Filters
pub mod Machines
pub mod Journals
pub mod Replay
pub mod Walk
pub mod Trial
pub mod Commands

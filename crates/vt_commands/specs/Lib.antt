pub use Rattle.vt_command_words.specs.Arguments
pub use Rattle.vt_walk_commands.specs.Machines
pub mod Words
pub mod Choices
pub mod commands
pub mod Waits
pub mod Runs

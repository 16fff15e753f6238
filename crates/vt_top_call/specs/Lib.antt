pub use Rattle.vt_commands.specs.Choices
pub use Rattle.vt_commands.specs.Machines
pub use Rattle.vt_commands.specs.Runs
pub use Rattle.vt_commands.specs.Words

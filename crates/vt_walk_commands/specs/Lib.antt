pub use Rattle.vt_store_commands.specs.commands as StoreCommandsCommands
pub mod Machines
pub mod commands

pub mod Logs
pub mod Heads
pub mod Caches
pub mod Slots
pub mod LogWords

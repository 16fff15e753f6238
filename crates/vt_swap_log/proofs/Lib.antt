pub mod Prefixes
pub mod Lawful
pub mod Adding

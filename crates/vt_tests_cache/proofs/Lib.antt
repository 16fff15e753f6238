pub mod Blank
pub mod Steps

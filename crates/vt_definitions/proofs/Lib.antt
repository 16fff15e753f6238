pub mod Dealt
pub mod Levels
pub mod Quotients
pub mod TexelWords
pub mod Words

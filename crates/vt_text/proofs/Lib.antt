pub mod Spelling
pub mod Reading
pub mod Parts
pub mod Words
pub mod JoinedPieces
pub mod Refused
pub mod Truths

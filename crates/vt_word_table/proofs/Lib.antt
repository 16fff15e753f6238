pub use Rattle.vt_word_notes.proofs.Growing
pub mod Filling
pub mod Homes

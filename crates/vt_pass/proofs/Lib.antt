pub use Rattle.vt_word_table.proofs.Growing
mod NewRows
mod Kits
mod Running
mod WordsRan

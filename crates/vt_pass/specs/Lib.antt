pub use Rattle.vt_word_table.specs.Stored
pub mod WordPools
pub mod Runs
pub mod NewRows
pub mod PassKits

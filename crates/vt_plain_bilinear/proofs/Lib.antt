pub use Rattle.vt_pictures.proofs.WrittenPictures
pub mod Counts
pub mod Kept
pub mod Evidence
pub mod DrawnBlends

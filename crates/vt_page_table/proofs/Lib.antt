pub use Rattle.vt_pictures.proofs.Handed
pub use Rattle.vt_tiles.proofs.Stored

pub use Rattle.vt_store.specs.ChainStores
pub mod Pictures
pub mod commands
pub mod PlainFiles
pub mod SeenTextures

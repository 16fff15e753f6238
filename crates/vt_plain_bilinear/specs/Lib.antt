pub use Rattle.vt_pictures.specs.Names
pub use Rattle.vt_pictures.specs.Pictures
pub mod Served
pub mod Shown
pub mod Inside
pub mod BlendUnder
pub mod BlendPlain

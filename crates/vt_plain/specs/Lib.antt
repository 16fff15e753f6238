pub mod Plain
pub mod Parts
pub mod Views
pub mod BlendedPlain
pub mod BlendViews

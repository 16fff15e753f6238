pub mod Answering
pub mod Evenly
pub mod Spanning
pub mod Blending

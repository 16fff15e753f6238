pub mod Points
pub mod Spans
pub mod Stretches
pub mod Blends
pub mod BlendLaws

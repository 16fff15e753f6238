pub mod Replaying
pub mod Walking
pub mod Trying
pub mod Differing
pub mod Sound

-- What each of these commands has to do.
pub mod Replay
pub mod Walk
pub mod Trial

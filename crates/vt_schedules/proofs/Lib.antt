pub use Rattle.vt_sampler.proofs.Sharing
mod Keeping
pub mod Taken
pub mod Keepers
mod Lists
mod Taking
mod AllDealt
mod AllShared
mod Dealing
mod Ways

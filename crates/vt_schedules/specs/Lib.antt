pub use Rattle.vt_sampler.specs.Samplers
pub mod Bags
pub mod SharedRows
pub mod Rows
pub mod Dealt
pub mod DealtLaws
pub mod Sharing
pub mod SharingLaws

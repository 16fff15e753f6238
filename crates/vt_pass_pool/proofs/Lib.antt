pub use Rattle.vt_pass_rows.proofs.Handed
mod Listed
pub mod Stills
mod MadeSamplers
mod Placement
mod Closing
mod SameSamplers
mod Readying
mod Rising
mod Drawn
mod Finishing
mod Applying
mod Lasting

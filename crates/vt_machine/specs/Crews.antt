-- How many workers a pass may have, and the limits of what a machine is made for.
use Rattle.std.specs.Prelude.{ℕ, ◌*◌, ◌≤◌, ◌^◌}
use Rattle.vt_pages.specs.Limits.{most_frames, most_frame_texels, most_samplers, most_loaders, most_entries}
use Rattle.vt_pages.specs.Shape.{Shape}
use Rattle.vt_machine.specs.declared.crew.Crew.{Crew}

-- the greatest version at which a page is placed or a pass prepared
abbrev pub last_start : ℕ
last_start = 2 ^ 61

-- the numbers of workers, and of entries that a pass may have, are within their limits
pub record IsCrew (crew : Crew) : Type 0 where
  pub some_sampler : 1 ≤ crew.samplers
  pub few_samplers : crew.samplers ≤ most_samplers
  pub some_loader : 1 ≤ crew.loaders
  pub few_loaders : crew.loaders ≤ most_loaders
  pub some_entry : 1 ≤ crew.batch
  pub few_entries : crew.batch ≤ most_entries

-- a number of frames is within its limits
pub record AreFrames (s : Shape) (frames : ℕ) : Type 0 where
  pub some : 1 ≤ frames
  pub few : frames ≤ most_frames
  pub few_texels : frames * (s.tile * s.tile) ≤ most_frame_texels

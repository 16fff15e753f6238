use Rattle.std.proofs.Common.{ℕ, ◌/◌, ◌<◌, ◌≤◌, unsigned_abs}
use Rattle.vt_camera.specs.Paths.{camera_at}
use Rattle.vt_plain.proofs.wanted_levels.wants_level_0.Given as goal

-- the last rows of the pictures so far span two texels at least
abbrev pub invariant-loop-picture : goal.invariant-loop-picture
invariant-loop-picture l = (i : ℕ) → i < l.picture → 512 ≤ unsigned_abs (camera_at l.path i).h / l.path.height

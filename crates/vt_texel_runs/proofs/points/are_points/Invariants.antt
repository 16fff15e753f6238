use Rattle.std.proofs.Common.{take}
use Rattle.std.specs.List.{All}
use Rattle.vt_texel_runs.specs.Points.{IsPoint}
use Rattle.vt_texel_runs.proofs.points.are_points.Given as goal

abbrev pub invariant-loop-point : goal.invariant-loop-point
invariant-loop-point l = All (IsPoint l.geometry) (take l.point-index l.points)

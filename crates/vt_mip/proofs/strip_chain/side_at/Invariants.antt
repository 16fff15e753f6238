use Rattle.std.proofs.Common.{◌≡◌, ◌≤◌}
use Rattle.vt_ppm.specs.Sides.{side}
use Rattle.vt_mip.proofs.strip_chain.side_at.Given as goal

abbrev pub invariant-loop-level : goal.invariant-loop-level
invariant-loop-level l = record { value : l.side ≡ side l.texture l._level; some : 1 ≤ l.side; few : l.side ≤ l.texture }

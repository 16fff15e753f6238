use Rattle.std.proofs.Common.{◌≡◌, ◌+◌, ◌≤◌, length, map, take}
use Rattle.vt_feedback.specs.Ranks.{wanted_by}
use Rattle.vt_feedback.proofs.ranks.wants_of.Given as goal

abbrev pub invariant-loop-rank : goal.invariant-loop-rank
invariant-loop-rank l = record {
  wanted : l.wants.elements ≡ map wanted_by (take l.rank-index l.ranks);
  room : length l.ranks ≤ l.wants.spare + l.rank-index;
}

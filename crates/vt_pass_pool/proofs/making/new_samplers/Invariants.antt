use Rattle.std.proofs.Common.{◌≡◌, ◌+◌, ◌≤◌, ◌++◌, length, map, reverse}
use Rattle.vt_pass_pool.specs.Pools.{AreSamplers}
use Rattle.vt_pass_pool.proofs.making.new_samplers.Given as goal

abbrev pub invariant-loop-number : goal.invariant-loop-number
invariant-loop-number g l = record {
  first : AreSamplers l.geometry l.number l.samplers.elements;
  spare : l.count ≤ l.number + l.samplers.spare;
  number : length l.left.elements + l.number ≡ l.count;
  readers : l.fn.readers.elements ≡ map (λ a. a.reader) l.samplers.elements ++ reverse l.left.elements;
}

use Rattle.std.proofs.Common.{◌≡◌, ◌≤◌, length}
use Rattle.std.specs.Prelude.{All}
use Rattle.vt_loading.proofs.round.make_buffers.Given as goal

abbrev pub invariant-loop-made : goal.invariant-loop-made
invariant-loop-made l = record {
  enough : l.made ≤ length l.buffers.elements;
  sizes : All (λ b. length b.elements ≡ length l.tile) l.buffers.elements;
}

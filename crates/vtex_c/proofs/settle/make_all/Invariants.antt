use Rattle.std.proofs.Common.{◌≡◌}
use Rattle.vtex_c.specs.Settlings.{AreMade}
use Rattle.vtex_c.proofs.settle.make_all.Given as goal

abbrev pub invariant-loop-k : goal.invariant-loop-k
invariant-loop-k l = record {
  made : AreMade l.steps l.tiles l.k l.fn.owner l.owner;
  same : l.waiting ≡ l.fn.waiting;
}

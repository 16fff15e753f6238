use Rattle.std.proofs.Common.{◌≡◌, ◌++◌, take}
use Rattle.std.specs.List.{concat}
use Rattle.vt_pass_pool.specs.Placing.{bytes_of}
use Rattle.vt_pass_pool.proofs.pool.PassPool.picture_into.Given as goal

abbrev pub invariant-loop-y : goal.invariant-loop-y
invariant-loop-y g l = record {
  joined : l.out.items ≡ l.fn.out.items ++ concat (bytes_of (take l.y l.self.drawn.elements));
}

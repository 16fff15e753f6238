use Rattle.vt_store.specs.Widening.{HasWideLines}
use Rattle.vt_store.proofs.widen.widen_tile.Given as goal

abbrev pub invariant-loop-line : goal.invariant-loop-line
invariant-loop-line l = HasWideLines l.tile l.side l.columns l.rows l.line l.out

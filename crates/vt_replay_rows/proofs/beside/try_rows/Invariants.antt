use Rattle.std.proofs.Common.{ℕ, ◌*◌, ◌<◌, ◌≤◌, length}
use Rattle.std.specs.Prelude.{slice_index}
use Rattle.vt_replay_rows.specs.Trying.{HasTriedRows}
use Rattle.vt_replay_rows.proofs.beside.try_rows.Given as goal

-- some rows were drawn
abbrev pub invariant-loop-k : goal.invariant-loop-k
invariant-loop-k g l = record {
  tried : HasTriedRows g.P.Filter.under l.shot l.replay_lookup l.first l.fn.left l.left l.fn.samples l.samples;
  counted : (p : ℕ) → p < length l.counts → slice_index l.counts p ≤ l.k * (4 * l.shot.path.now.width);
}

use Rattle.std.proofs.Common.{ℕ, ap, arith}
use Rattle.vt_draw.specs.Shots.{run_of}
use Rattle.vt_blend.proofs.CountedRuns.{run-sum}
use Rattle.vt_blend.proofs.counting.count_together.Goals as goal

pub returns-then-page-before : goal.returns-then-page-before
returns-then-page-before c = record {
  counted = λ p.
      let same = ap (λ (q : ℕ). run_of q c.args.run p) c.if-page-before.true in
      omega (arith, run-sum c.args.page c.args.run 4 p, same);
}

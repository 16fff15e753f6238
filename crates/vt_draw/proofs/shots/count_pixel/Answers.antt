use Rattle.std.proofs.Common.{ℕ, ap, arith}
use Rattle.vt_draw.specs.Shots.{run_of}
use Rattle.vt_draw.proofs.Counts.{run-more}
use Rattle.vt_draw.proofs.shots.count_pixel.Goals as goal

pub returns-then-page-before : goal.returns-then-page-before
returns-then-page-before c = record {
  counted = λ p.
      let page = c.args.page in
      let same = ap (λ (q : ℕ). run_of q c.args.run p) c.if-page-before.true in
      omega (arith, run-more page c.args.run p, same);
  short = omega arith;
}

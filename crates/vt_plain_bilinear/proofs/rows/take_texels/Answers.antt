use Rattle.std.proofs.Common.{ℕ, ◌<◌, Bool, MatchBool, refl, sym, ap, subst, arith}
use Rattle.vt_draw.proofs.Counts.{run-own}
use Rattle.vt_blend.specs.declared.counting.Pages.{Pages}
use Rattle.vt_blend.specs.Counting.{times_among}
use Rattle.vt_blend.proofs.CountedRuns.{times-one}
use Rattle.vt_plain_bilinear.specs.Served.{AreOne}
use Rattle.vt_plain_bilinear.proofs.rows.take_texels.Goals as goal

pub count_together-run-requires-clause-room : goal.count_together-run-requires-clause-room
count_together-run-requires-clause-room g c =
    omega (
      arith,
      c.requires.room c.args.last (subst (λ (n : ℕ). c.args.last < n) (sym c.requires.pages) c.requires.page),
      run-own c.args.last c.args.run,
    )

pub returns-then-are_one-clause-counted : goal.returns-then-are_one-clause-counted
returns-then-are_one-clause-counted g c = λ p.
    let pages = c.pages_about-pages.result in
    let one : AreOne pages = subst (λ (b : Bool). MatchBool b (AreOne pages) (AreOne pages → ⊥)) c.if-are_one.true c.are_one.ensures in
    omega (
      arith,
      c.count_together-run.ensures.counted p,
      times-one pages pages.first p refl one.second one.third one.fourth,
      ap (λ (q : Pages). times_among q p) c.pages_about-pages.ensures.pages,
    )

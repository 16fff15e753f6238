use Rattle.std.proofs.Common.{◌≡◌, ℕ, ◌-◌, length, ap, ◌∙◌, arith, slice_get}
use Rattle.vt_streamer.proofs.latest.change_back.Goals as goal

pub returns-then-back-eq1 : goal.returns-then-back-eq1
returns-then-back-eq1 c = λ js latest far. let is = c.if-back-eq1.true in
    ap (λ (n : ℕ). slice_get js (length js - n)) is ∙ latest.last (omega (arith, is, far))

pub returns-then-back-eq2 : goal.returns-then-back-eq2
returns-then-back-eq2 c = λ js latest far. let is = c.if-back-eq2.true in
    ap (λ (n : ℕ). slice_get js (length js - n)) is ∙ latest.second (omega (arith, is, far))

pub returns : goal.returns
returns c = λ js latest far.
    let is : c.args.back ≡ 3 = omega (arith, c.requires.some, c.requires.few, c.if-back-eq1.false, c.if-back-eq2.false) in
    ap (λ (n : ℕ). slice_get js (length js - n)) is ∙ latest.third (omega (arith, is, far))

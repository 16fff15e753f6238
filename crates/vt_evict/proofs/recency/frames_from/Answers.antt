use Rattle.std.proofs.Common.{◌≡◌, ℕ, ◌+◌, ◌≤◌, Bool, ◌&&◌, ◌||◌, nat_eq, nat_le, nat_lt, ap, ◌∙◌, arith}
use Rattle.std.proofs.lemmas.Bool.Decides.{nat_tests}
use Rattle.vt_evict.proofs.recency.frames_from.Goals as goal

frame_more : (first frame f : ℕ) → first ≤ frame → (nat_le first f && nat_lt f frame || nat_eq frame f) ≡ (nat_le first f && nat_lt f (frame + 1))
frame_more first frame f above = grind (arith, nat_tests)

pub loop-frame-preserved : goal.loop-frame-preserved
loop-frame-preserved c = λ f.
    c.in_ok-put_frame.ensures f
    ∙ ap (λ (b : Bool). b || nat_eq c.loop-frame.frame f) (c.loop-frame.invariant f)
    ∙ frame_more c.args.first c.loop-frame.frame f (omega arith)

pub returns : goal.returns
returns c = λ f.
    let last : c.loop-frame.frame ≡ c.args.frames = omega (arith, c.loop-frame-test.false, c.requires) in
    c.loop-frame.invariant f ∙ ap (λ (n : ℕ). nat_le c.args.first f && nat_lt f n) last

use Rattle.std.proofs.Common.{◌≡◌, ◌≤◌, slice_index, subst, inl, inr, arith}
use Rattle.std.proofs.lemmas.Bool.{cases_lt}
use Rattle.std.proofs.lemmas.Nat.{le_or_l, le_or_r}
use Rattle.std.specs.Int.Bits.{bit_or}
use Rattle.vt_feedback.proofs.blocks.are_unwanted.Goals as goal

pub loop-i-preserved : goal.loop-i-preserved
loop-i-preserved c = λ p low below.
    let n = c.loop-i.pixels in
    elim (cases_lt p c.loop-i.i) [
      | inl under ↦ let h = c.loop-i.invariant p low under in let m = le_or_l n (slice_index c.args.counts.now c.loop-i.i) in omega (arith, h, m)
      | inr over ↦
          let e : c.loop-i.i ≡ p = omega arith in
          subst (λ k. slice_index c.args.counts.now k ≤ bit_or n (slice_index c.args.counts.now c.loop-i.i)) e
          (le_or_r n (slice_index c.args.counts.now c.loop-i.i))
    ]

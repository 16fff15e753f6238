use Rattle.std.proofs.Common.{◌≡◌, ℕ, Bool, true, false, cond, ◌&&◌, not, nat_eq, sym, ap, ◌∙◌, refl, arith}
use Rattle.std.specs.List.{list_any}
use Rattle.std.specs.Ordering.{nat_cmp, is_eq}
use Rattle.std.proofs.lemmas.Bool.Decides.{nat_tests}
use Rattle.vt_evict.proofs.recency.take_frame.Goals as goal

same_test : (x y : ℕ) → nat_eq x y ≡ is_eq (nat_cmp x y)
same_test x y = grind (arith, nat_tests)

taken : (b c : Bool) → cond b false c ≡ (c && not b)
taken true true = refl
taken true false = refl
taken false true = refl
taken false false = refl

pub returns : goal.returns
returns c f =
    ap (λ (t : ℕ → Bool). list_any t c.remove.new.self.keys) (λ i k. same_test f k i)
    ∙ c.remove.ensures.updates.0 f
    ∙ taken (is_eq (nat_cmp c.args.frame f)) (list_any (λ k. is_eq (nat_cmp f k)) c.args.free.now.keys)
    ∙ ap (λ (t : ℕ → Bool). list_any t c.args.free.now.keys && not (is_eq (nat_cmp c.args.frame f))) (λ i k. sym (same_test f k) i)
    ∙ ap (λ (b : Bool). list_any (nat_eq f) c.args.free.now.keys && not b) (sym (same_test c.args.frame f))

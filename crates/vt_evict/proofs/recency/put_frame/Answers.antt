use Rattle.std.proofs.Common.{◌≡◌, Bool, true, false, cond, ◌||◌, nat_eq, sym, ap, ◌∙◌, refl}
use Rattle.std.specs.List.{list_any}
use Rattle.std.specs.Ordering.{nat_cmp, is_eq}
use Rattle.vt_evict.proofs.FreeLemmas.{same_test, is_in_as}
use Rattle.vt_evict.proofs.recency.put_frame.Goals as goal

added : (b c : Bool) → cond b true c ≡ (c || b)
added true true = refl
added true false = refl
added false true = refl
added false false = refl

pub returns : goal.returns
returns c f =
    is_in_as c.insert.new.self.keys f
    ∙ c.in_ok-insert.ensures.updates.0 f
    ∙ added (is_eq (nat_cmp c.args.frame f)) (list_any (λ k. is_eq (nat_cmp f k)) c.args.free.now.keys)
    ∙ ap (λ (b : Bool). b || is_eq (nat_cmp c.args.frame f)) (sym (is_in_as c.args.free.now.keys f))
    ∙ ap (λ (b : Bool). list_any (nat_eq f) c.args.free.now.keys || b) (sym (same_test c.args.frame f))

use Rattle.std.proofs.Common.{◌≡◌, ℕ, ◌+◌, List, ◌∷◌, ◌++◌, [], append-nil, append_assoc, sym, ap, ◌∙◌, arith}
use Rattle.std.specs.List.{range_with_len}
use Rattle.vt_evict.proofs.FirstLemmas.{range-more}
use Rattle.vt_evict.proofs.recency.put_frames.Goals as goal

pub loop-i-init : goal.loop-i-init
loop-i-init c = sym (append-nil c.args.entries.now.items)

pub loop-i-preserved : goal.loop-i-preserved
loop-i-preserved c =
    let low : List ℕ = c.args.entries.now.items in
    let one : c.loop-i.i + 1 ≡ 1 + c.loop-i.i = omega arith in
    c.in_ok-push.ensures.items
    ∙ ap (λ (l : List ℕ). l ++ (c.loop-i.i + 1) ∷ []) c.loop-i.invariant
    ∙ append_assoc low (range_with_len 1 c.loop-i.i) _
    ∙ ap (λ (n : ℕ). low ++ (range_with_len 1 c.loop-i.i ++ n ∷ [])) one
    ∙ ap (λ (l : List ℕ). low ++ l) (sym (range-more 1 c.loop-i.i))

pub returns : goal.returns
returns c =
    let last : c.loop-i.i ≡ c.args.pinned = omega (arith, c.loop-i-test.false) in
    c.loop-i.invariant ∙ ap (λ (n : ℕ). c.args.entries.now.items ++ range_with_len 1 n) last

use Rattle.std.proofs.Common.{◌≡◌, ℕ, ◌+◌, ◌-◌, ◌<◌, Bool, not, List, [], ◌∷◌, ◌++◌, map, min, reverse, length, length-append, drop, slice_index, sym, ap, ◌∙◌, subst, refl, arith}
use Rattle.std.specs.List.{filter, range_with_len}
use Rattle.std.specs.Map.{keys_of}
use Rattle.std.proofs.lemmas.List.{get_or_append_left, length-map}
use Rattle.vt_plan.specs.declared.batches.Planned.{Planned}
use Rattle.vt_plan.specs.PageLists.{is_in}
use Rattle.vt_plan.specs.Entries.{taken_at}
use Rattle.vt_plan.proofs.PlanLemmas.{offer, last_at, kept_last, none_left}
use Rattle.vt_plan.proofs.plans.put_victims.Goals as goal

pub put_victim-requires-clause-inside : goal.put_victim-requires-clause-inside
put_victim-requires-clause-inside c =
    let before : List ℕ = keys_of c.take_oldest.new.rest in
    let last : keys_of c.loop.rest ≡ before ++ c.in-Some.victim ∷ [] = c.in-Some.ensures.some in
    let n : length (keys_of c.loop.rest) ≡ length before + 1 = ap length last ∙ length-append before (c.in-Some.victim ∷ []) in
    let at : slice_index (keys_of c.loop.rest) (length before) ≡ c.in-Some.victim = ap (λ (l : List ℕ). slice_index l (length before)) last
    ∙ last_at before c.in-Some.victim in
    omega (arith, c.loop.invariant.inside (length before) (omega arith))

pub put_victim-requires-clause-mapped : goal.put_victim-requires-clause-mapped
put_victim-requires-clause-mapped c =
    let before : List ℕ = keys_of c.take_oldest.new.rest in
    let last : keys_of c.loop.rest ≡ before ++ c.in-Some.victim ∷ [] = c.in-Some.ensures.some in
    let n : length (keys_of c.loop.rest) ≡ length before + 1 = ap length last ∙ length-append before (c.in-Some.victim ∷ []) in
    let at : slice_index (keys_of c.loop.rest) (length before) ≡ c.in-Some.victim = ap (λ (l : List ℕ). slice_index l (length before)) last
    ∙ last_at before c.in-Some.victim in
    subst (λ (p : ℕ). 0 < slice_index c.args.entries.now p) at (c.loop.invariant.mapped (length before) (omega arith))

pub loop-preserved : goal.loop-preserved
loop-preserved c =
    let victims : List ℕ = filter (λ p. not (is_in c.args.kept.now.keys p)) (reverse (keys_of c.args.order.now.entries)) in
    let start : List Planned = c.args.batch.now.elements in
    let now : List Planned = c.loop.batch.elements in
    let next : List Planned = c.put_victim.new.batch.elements in
    let before : List ℕ = keys_of c.take_oldest.new.rest in
    let last : keys_of c.loop.rest ≡ before ++ c.in-Some.victim ∷ [] = c.in-Some.ensures.some in
    let n : length (keys_of c.loop.rest) ≡ length before + 1 = ap length last ∙ length-append before (c.in-Some.victim ∷ []) in
    let k : ℕ = length now - length start in
    let step = offer c.args.entries.now c.args.missing.now victims (length start) start now next k c.in-Some.victim
    (is_in c.args.kept.now.keys c.in-Some.victim)
    (filter (λ p. not (is_in c.args.kept.now.keys p)) (reverse before)) refl c.loop.invariant.least c.loop.invariant.put (omega (arith, c.loop.invariant.grown))
    (c.loop.invariant.rest ∙ kept_last (λ p. not (is_in c.args.kept.now.keys p)) (keys_of c.loop.rest) before c.in-Some.victim last) c.put_victim.ensures.put in
    let g : length next - length start ≡ step.grown = omega (arith, step.count) in
    record {
      grown = omega (arith, step.count);
      most = omega (arith, step.count, step.most, c.loop.invariant.grown, c.loop.invariant.most, c.if-len-most.false, c.len.ensures);
      least = omega (arith, step.inside);
      put = step.put ∙ ap (λ (n : ℕ). start ++ map (taken_at c.args.entries.now c.args.missing.now victims (length start)) (range_with_len 0 n)) (sym g);
      rest = ap (λ (n : ℕ). drop n victims) g ∙ step.left;
      count = let a : length before ≡ length c.take_oldest.new.rest = length-map _ _ in let b : length (keys_of c.loop.rest) ≡ length
          c.loop.rest = length-map _ _ in
          omega (arith, c.loop.invariant.count, c.loop-test.true);
      room = omega (arith, c.loop.invariant.room, c.put_victim.ensures.room);
      inside = λ i below. let e : slice_index (keys_of c.loop.rest) i ≡ slice_index before i = ap (λ (l : List ℕ). slice_index l i) last
          ∙ get_or_append_left before (c.in-Some.victim ∷ []) 0 i below in
          omega (arith, c.loop.invariant.inside i (omega arith));
      mapped = λ i below. let e : slice_index (keys_of c.loop.rest) i ≡ slice_index before i = ap (λ (l : List ℕ). slice_index l i) last
          ∙ get_or_append_left before (c.in-Some.victim ∷ []) 0 i below in
          subst (λ (p : ℕ). 0 < slice_index c.args.entries.now p) e (c.loop.invariant.mapped i (omega arith));
    }

nothing_left : {X : Type 0} (ok : ℕ → Bool) (es : List (ℕ × X)) → length es ≡ 0 → filter ok (reverse (keys_of es)) ≡ []
nothing_left ok [] e = refl
nothing_left ok (x ∷ es) e = absurd (omega arith)

pub returns-after-loop : goal.returns-after-loop
returns-after-loop c =
    let victims : List ℕ = filter (λ p. not (is_in c.args.kept.now.keys p)) (reverse (keys_of c.args.order.now.entries)) in
    let start : List Planned = c.args.batch.now.elements in
    let k : ℕ = length c.loop.batch.elements - length start in
    let zero : length c.loop.rest ≡ 0 = omega (arith, c.loop.invariant.count, c.loop-test.false, c.len-end.ensures.len) in
    let all = none_left victims k (c.loop.invariant.rest ∙ nothing_left (λ p. not (is_in c.args.kept.now.keys p)) c.loop.rest zero) in
    let n : k ≡ min (c.args.most - length start) (length victims) = omega (arith, c.loop.invariant.most, c.loop.invariant.least) in
    record {
      put = c.loop.invariant.put ∙ ap (λ (n : ℕ). start
          ++ map (taken_at c.args.entries.now c.args.missing.now victims (length start)) (range_with_len 0 n)) n;
    }

pub returns-then-len-most : goal.returns-then-len-most
returns-then-len-most c =
    let victims : List ℕ = filter (λ p. not (is_in c.args.kept.now.keys p)) (reverse (keys_of c.args.order.now.entries)) in
    let start : List Planned = c.args.batch.now.elements in
    let k : ℕ = length c.loop.batch.elements - length start in
    let n : k ≡ min (c.args.most - length start) (length victims) = omega
    (arith, c.loop.invariant.most, c.loop.invariant.least, c.if-len-most.true, c.len.ensures) in
    record {
      put = c.loop.invariant.put ∙ ap (λ (n : ℕ). start
          ++ map (taken_at c.args.entries.now c.args.missing.now victims (length start)) (range_with_len 0 n)) n;
    }

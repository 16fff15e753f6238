use Rattle.std.proofs.Common.{◌≡◌, ℕ, ◌+◌, ◌/◌, ◌%◌, ◌≤◌, List, length, refl, sym, ap, ◌∙◌, subst, arith}
use Rattle.std.proofs.lemmas.List.{with_items_is}
use Rattle.vt_mip.specs.InPlace.{IsShrunk, ShrinksFront}
use Rattle.vt_mip.specs.TakenRows.{HalvingView}
use Rattle.vt_mip.proofs.InPlace.{shrinks_on}
use Rattle.vt_mip.proofs.shrinking.Shrinking.take.Goals as goal

pub invariant_of-self : goal.invariant_of-self
invariant_of-self c =
    let h = c.self.inside in
    let i = c.self.invariant in
    let made = with_items_is h.samples c.halve_pairs.new.samples (c.halve_pairs.auto.samples ∙ c.as_mut_slice.ensures.len) in
    let room = with_items_is h.row c.halve_pairs.new.row (c.halve_pairs.auto.row ∙ c.as_mut_slice-2.ensures.len) in
    record {
      image = record {
        depth = i.image.depth;
        some_columns = i.image.some_columns;
        few_columns = i.image.few_columns;
        some_rows = i.image.some_rows;
        few_rows = i.image.few_rows;
        full = ap length made ∙ c.halve_pairs.auto.samples ∙ ap length c.as_mut_slice.ensures.value ∙ i.image.full;
      };
      few = subst (λ (v : HalvingView). v.taken + c.args.count ≤ v.height) (sym c.self.view_is) c.requires.inside;
      row = ap length room ∙ c.halve_pairs.auto.row ∙ ap length c.as_mut_slice-2.ensures.value ∙ i.row;
    }

pub returns-clause-halves : goal.returns-clause-halves
returns-clause-halves c = λ p before.
    let h = c.self.inside in
    let view_of : List ℕ → ℕ → HalvingView = λ l n. record { depth = h.depth; width = h.width; height = h.height; taken = n; samples = l } in
    let made = with_items_is h.samples c.halve_pairs.new.samples (c.halve_pairs.auto.samples ∙ c.as_mut_slice.ensures.len) in
    let even : h.taken % 2 ≡ 0 = subst (λ (v : HalvingView). v.taken % 2 ≡ 0) (sym c.self.view_is) c.requires.even in
    let Front : List ℕ → List ℕ → Type 0 = λ source l. IsShrunk h.depth source h.width h.height (h.taken / 2) l in
    subst (λ (l : List ℕ). ShrinksFront p (view_of l (h.taken + c.args.count))) (sym made)
    (shrinks_on p (view_of h.samples.items h.taken) (view_of c.halve_pairs.new.samples (h.taken + c.args.count)) (h.taken / 2)
    ((h.taken + c.args.count + 1) / 2) refl refl refl (c.halve_pairs.auto.samples ∙ ap length c.as_mut_slice.ensures.value) (omega arith) refl
    (λ source old. c.halve_pairs.ensures source (subst (Front source) (sym c.as_mut_slice.ensures.value) old))
    (subst (ShrinksFront p) (sym c.self.view_is) before))

-- Counting the lines of wanted pages.
use Rattle.std.proofs.Common.{◌≡◌, ℕ, ◌+◌, ◌<◌, Bool, true, false, ◌||◌, nat_eq, nat_lt, min, None, Some, List, [], length, slice_set, refl, sym, ap, subst, ◌∙◌, arith}
use Rattle.std.proofs.lemmas.Bool.{false≢true}
use Rattle.std.proofs.lemmas.Bool.Decides.{nat_tests}
use Rattle.std.proofs.lemmas.Grind.{get_or-set_at}
use Rattle.std.proofs.lemmas.List.{get_or-set_other}
use Rattle.vt_outside.specs.Lists.{ListView}
use Rattle.vt_pages.specs.Shape.{Shape}
use Rattle.vt_pages.specs.Pages.{IsWithinLimits, pages_of, parent_of, ancestors_of}
use Rattle.vt_pages.proofs.Parents.{parent_facts, root_facts}
use Rattle.vt_feedback.specs.Ranks.{most_pixels}
use Rattle.vt_evict.specs.PageLists.{is_in}
use Rattle.vt_evict.proofs.PlanListLemmas.{nat_eq_true}
use Rattle.vt_evict.proofs.SettleLemmas.{self_eq}
use Rattle.vt_evict.proofs.WalkLemmas.{or_true, or_false}
use Rattle.vt_residency.specs.Needs.{AreWholeLines, is_counted}
use Rattle.vt_residency.specs.Tallies.{IsTally}
use Rattle.vt_residency.proofs.Tallying.{tally_none}

or_assoc : (a b c : Bool) → (a || (b || c)) ≡ ((a || b) || c)
or_assoc true b c = refl
or_assoc false b c = refl

-- a count of a page that pixels are added to
pub some_pixel : (a : ℕ) → 0 < min most_pixels (a + 1)
some_pixel a = omega arith

-- a page whose count was set above 0 is counted, and the others as before
pub counted_set : (counts : List ℕ) (page x p : ℕ) → page < length counts → 0 < x
    → is_counted (slice_set counts page x) p ≡ (nat_eq p page || is_counted counts p)
counted_set counts page x p inside some = step (nat_eq p page) refl where
  high : (x : ℕ) → 0 < x → nat_lt 0 x ≡ true
  high x some = grind (arith, nat_tests)

  step : (b : Bool) → nat_eq p page ≡ b → is_counted (slice_set counts page x) p ≡ (b || is_counted counts p)
  step true same = ap (nat_lt 0) (get_or-set_at counts page p x 0 (nat_eq_true p page same) inside) ∙ high x some
  step false other =
      ap (nat_lt 0) (get_or-set_other counts page p x 0 (λ e. false≢true (sym other ∙ ap (nat_eq p) (sym e) ∙ self_eq p)))

-- the root is counted, or a page after the line of its parent
module _ (s : Shape) (page : ℕ) (limits : IsWithinLimits s) (inside : page < pages_of s) where
  pub root_counted : (old new : List ℕ) (x p : ℕ) → page < length old → 0 < x → parent_of s page ≡ None → new ≡ slice_set old page x
      → is_counted new p ≡ (is_in (ancestors_of s page) p || is_counted old p)
  root_counted old new x p within some none e =
      ap (λ (counts : List ℕ). is_counted counts p) e ∙ counted_set old page x p within some
      ∙ ap (λ (b : Bool). b || is_counted old p) (sym (ap (λ (l : List ℕ). is_in l p) (root_facts s page limits inside none) ∙ or_false (nat_eq p page)))

  pub page_counted : (old mid new : List ℕ) (q x p : ℕ) → page < length mid → 0 < x → parent_of s page ≡ Some q
      → is_counted mid p ≡ (is_in (ancestors_of s q) p || is_counted old p) → new ≡ slice_set mid page x
      → is_counted new p ≡ (is_in (ancestors_of s page) p || is_counted old p)
  page_counted old mid new q x p within some parent above e =
      ap (λ (counts : List ℕ). is_counted counts p) e ∙ counted_set mid page x p within some
      ∙ ap (λ (b : Bool). nat_eq p page || b) above
      ∙ or_assoc (nat_eq p page) (is_in (ancestors_of s q) p) (is_counted old p)
      ∙ ap (λ (l : List ℕ). is_in l p || is_counted old p) (sym (parent_facts s page q limits inside parent).line)

-- lines that are whole stay so where a page is counted whose line is
pub whole_more : (s : Shape) (mid new : List ℕ) (page x : ℕ) → AreWholeLines s mid → page < length mid → 0 < x → new ≡ slice_set mid page x
    → ((q : ℕ) → is_in (ancestors_of s page) q ≡ true → is_counted new q ≡ true) → AreWholeLines s new
whole_more s mid new page x whole within some e line = record { lines = λ p q high there. step p q (nat_eq p page) refl high there } where
  counted : (p : ℕ) → is_counted new p ≡ (nat_eq p page || is_counted mid p)
  counted p = ap (λ (counts : List ℕ). is_counted counts p) e ∙ counted_set mid page x p within some

  step : (p q : ℕ) (b : Bool) → nat_eq p page ≡ b → is_counted new p ≡ true → is_in (ancestors_of s p) q ≡ true → is_counted new q ≡ true
  step p q true same high there = line q (subst (λ (r : ℕ). is_in (ancestors_of s r) q ≡ true) (nat_eq_true p page same) there)
  step p q false other high there =
      let was : is_counted mid p ≡ true = sym (counted p ∙ ap (λ (b : Bool). b || is_counted mid p) other) ∙ high in
      counted q ∙ ap (λ (b : Bool). nat_eq q page || b) (whole.lines p q was there) ∙ or_true (nat_eq q page)

-- what is in a line is counted with it
pub line_counted : (s : Shape) (old new : List ℕ) (page q : ℕ) → is_counted new q ≡ (is_in (ancestors_of s page) q || is_counted old q)
    → is_in (ancestors_of s page) q ≡ true → is_counted new q ≡ true
line_counted s old new page q e there = e ∙ ap (λ (b : Bool). b || is_counted old q) there

-- no page is counted
module _ (n : ℕ) (counts : List ℕ) (pages : ListView ℕ) (h : IsTally n counts pages) (none : pages.elements ≡ []) where
  pub none_counted : (p : ℕ) → is_counted counts p ≡ false
  none_counted p = ap (nat_lt 0) (tally_none n counts pages h none p)

  pub none_whole : (s : Shape) → AreWholeLines s counts
  none_whole s = record { lines = λ p q high there. absurd (false≢true (sym (none_counted p) ∙ high)) }

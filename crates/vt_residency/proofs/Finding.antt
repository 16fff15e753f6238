-- The look-up of a page, by its parent.
use Rattle.std.proofs.Common.{◌≡◌, ℕ, suc, ◌+◌, ◌<◌, Bool, true, false, Option, None, Some, List, [], ◌∷◌, slice_get, refl, ap, ◌∙◌, arith, nat_lt, slice_index}
use Rattle.std.specs.Prelude.{MatchOption}
use Rattle.std.proofs.lemmas.Bool.Decides.{nat_tests}
use Rattle.vt_evict.specs.Missing.{has_frame}
use Rattle.vt_residency.specs.declared.places.Place.{Place}
use Rattle.vt_residency.specs.Places.{IsPlaceOf}
use Rattle.std.specs.List.{position_or_len}
use Rattle.vt_pages.specs.Shape.{Shape}
use Rattle.vt_pages.specs.Pages.{IsWithinLimits, level_of, levels_of, pages_of, parent_of, parent_name, index_of, name_at, root_of, ancestors_of}
use Rattle.vt_pages.specs.Lookups.{lookup}
use Rattle.vt_pages.proofs.Parents.{IsParent, parent_facts, root_facts, line_begins}
use Rattle.vt_pages.proofs.Lines.{parent_is, reaches_root}
use Rattle.vt_plan.specs.Views.{RecencyView, IsRecencyTable, is_pinned}
use Rattle.std.proofs.lemmas.Bool.{false≢true}
use Rattle.std.proofs.Common.{zero, ◌-◌, ◌≤◌, nat_le, sym}

-- what is found in a list that stands for a line
find_in : (ℕ → Bool) → List ℕ → Option ℕ
find_in m line = slice_get line (position_or_len m line)

find_here : (m : ℕ → Bool) (p : ℕ) (rest : List ℕ) → m p ≡ true → find_in m (p ∷ rest) ≡ Some p
unfolding find_in
find_here m p rest high = rw high refl

find_on : (m : ℕ → Bool) (p : ℕ) (rest : List ℕ) → m p ≡ false → find_in m (p ∷ rest) ≡ find_in m rest
unfolding find_in
find_on m p rest low = rw low (down (position_or_len m rest)) where
  down : (n : ℕ) → slice_get (p ∷ rest) (1 + n) ≡ slice_get rest n
  down n = let e : 1 + n ≡ suc n = omega arith in ap (λ (k : ℕ). slice_get (p ∷ rest) k) e

pub lookup_here : (s : Shape) (m : ℕ → Bool) (p : ℕ) → IsWithinLimits s → p < pages_of s → m p ≡ true → lookup s m p ≡ Some p
unfolding lookup find_in
lookup_here s m p limits inside high =
    let b = line_begins s p limits inside in ap (find_in m) b.1 ∙ find_here m p b.0 high

pub lookup_up : (s : Shape) (m : ℕ → Bool) (p q : ℕ) → IsWithinLimits s → p < pages_of s → parent_of s p ≡ Some q → m p ≡ false
    → lookup s m p ≡ lookup s m q
unfolding lookup find_in
lookup_up s m p q limits inside e low = ap (find_in m) (parent_facts s p q limits inside e).line ∙ find_on m p _ low

pub lookup_none : (s : Shape) (m : ℕ → Bool) (p : ℕ) → IsWithinLimits s → p < pages_of s → parent_of s p ≡ None → m p ≡ false
    → lookup s m p ≡ None
unfolding lookup find_in
lookup_none s m p limits inside e low = ap (find_in m) (root_facts s p limits inside e) ∙ find_on m p [] low

-- a page with a frame is its own look-up
pub found_here : (s : Shape) (es : List ℕ) (p f k : ℕ) → IsWithinLimits s → p < pages_of s → slice_index es p ≡ f + 1 → k ≡ level_of s p
    → IsPlaceOf s es p (record { page = p; frame = f; level = k })
found_here s es p f k limits inside e level =
    let high : nat_lt 0 (slice_index es p) ≡ true = grind (arith, nat_tests) in
    record { looked_up = lookup_here s (has_frame es) p limits inside high; held = e; level = level }

low_of : (es : List ℕ) (p : ℕ) → slice_index es p ≡ 0 → has_frame es p ≡ false
low_of es p e = rw e refl

-- a page without one has the look-up of its parent
pub found_up : (s : Shape) (es : List ℕ) (p q : ℕ) (r : Option Place) → IsWithinLimits s → p < pages_of s → parent_of s p ≡ Some q
    → slice_index es p ≡ 0 → MatchOption r (lookup s (has_frame es) q ≡ None) (IsPlaceOf s es q)
    → MatchOption r (lookup s (has_frame es) p ≡ None) (IsPlaceOf s es p)
found_up s es p q r limits inside e low = by (lookup_up s (has_frame es) p q limits inside e (low_of es p low)) r where
  by : lookup s (has_frame es) p ≡ lookup s (has_frame es) q → (r : Option Place)
      → MatchOption r (lookup s (has_frame es) q ≡ None) (IsPlaceOf s es q) → MatchOption r (lookup s (has_frame es) p ≡ None) (IsPlaceOf s es p)
  by same None h = same ∙ h
  by same (Some x) h = record { looked_up = same ∙ h.looked_up; held = h.held; level = h.level }

pub found_none : (s : Shape) (es : List ℕ) (p : ℕ) → IsWithinLimits s → p < pages_of s → parent_of s p ≡ None → slice_index es p ≡ 0
    → lookup s (has_frame es) p ≡ None
found_none s es p limits inside e low = lookup_none s (has_frame es) p limits inside e (low_of es p low)

some_not_none : (x : ℕ) → (let o : Option ℕ = Some x in o) ≡ None → ⊥
some_not_none x e = false≢true (sym (ap is_some e)) where
  is_some : Option ℕ → Bool
  is_some None = false
  is_some (Some x) = true

le_true : (a b : ℕ) → a ≤ b → nat_le a b ≡ true
le_true a b h = grind (arith, nat_tests)

-- each page has a look-up, since the root is mapped
pub found_some : (v : RecencyView) → IsRecencyTable v → (up p : ℕ) → level_of v.shape p + up + 1 ≡ levels_of v.shape → p < pages_of v.shape
    → lookup v.shape (has_frame v.entries) p ≡ None → ⊥
found_some v h zero p level inside none =
    let r = reaches_root v.shape p (omega (arith, h.limits.least_tile)) h.limits.least_width h.limits.least_height inside in
    let is : p ≡ root_of v.shape = sym r.begins ∙ ap (slice_index (ancestors_of v.shape p)) (let e : 0 ≡ levels_of v.shape - 1 - level_of v.shape p = omega (arith, level) in e) ∙ r.ends in
    let pinned : is_pinned v p ≡ true = le_true (pages_of v.shape) (p + v.pinned) (omega (arith, is, r.root_is_last, h.some_pinned)) in
    some_not_none p (sym (lookup_here v.shape (has_frame v.entries) p h.limits inside (h.pinned_mapped p inside pinned)) ∙ none)
found_some v h (suc up) p level inside none = step (has_frame v.entries p) refl (found_some v h up q (omega (arith, facts.level, level)) facts.inside) where
  q : ℕ
  q = index_of v.shape (parent_name (name_at v.shape p))

  parent : parent_of v.shape p ≡ Some q
  parent = parent_is v.shape p (omega (arith, level))

  facts : IsParent v.shape p q
  facts = parent_facts v.shape p q h.limits inside parent

  step : (b : Bool) → has_frame v.entries p ≡ b → (lookup v.shape (has_frame v.entries) q ≡ None → ⊥) → ⊥
  step true high rest = some_not_none p (sym (lookup_here v.shape (has_frame v.entries) p h.limits inside high) ∙ none)
  step false low rest = rest (sym (lookup_up v.shape (has_frame v.entries) p q h.limits inside parent low) ∙ none)

-- The step of a page, by its parent.
use Rattle.std.proofs.Common.{◌≡◌, ℕ, suc, ◌+◌, ◌-◌, ◌<◌, Bool, true, false, not, cond, None, Some, List, [], ◌∷◌, slice_index, get_or, refl, sym, ap, ◌∙◌, arith}
use Rattle.std.specs.List.{position_or_len}
use Rattle.vt_pages.specs.Shape.{Shape}
use Rattle.vt_pages.specs.Pages.{IsWithinLimits, pages_of, parent_of}
use Rattle.vt_pages.specs.Lookups.{next_finer_page}
use Rattle.vt_pages.proofs.Parents.{parent_facts, root_facts, line_begins}

-- the step in a list that stands for a line
line_step : (m : ℕ → Bool) → List ℕ → ℕ
line_step m line = slice_index line (position_or_len m line - 1)

step_one : (m : ℕ → Bool) (p : ℕ) → line_step m (p ∷ []) ≡ p
unfolding line_step
step_one m p = test (m p) where
  test : (b : Bool) → slice_index (p ∷ []) (cond (not b) (suc 0) 0 - 1) ≡ p
  test true = refl
  test false = refl

step_here : (m : ℕ → Bool) (p q : ℕ) (rest : List ℕ) → m p ≡ false → m q ≡ true → line_step m (p ∷ q ∷ rest) ≡ p
unfolding line_step
step_here m p q rest low high = rw (low, high) refl

step_on : (m : ℕ → Bool) (p q : ℕ) (rest : List ℕ) → m p ≡ false → m q ≡ false → line_step m (p ∷ q ∷ rest) ≡ line_step m (q ∷ rest)
unfolding line_step
step_on m p q rest low high = rw (low, high) (down (position_or_len m rest)) where
  down : (n : ℕ) → get_or (p ∷ q ∷ rest) (1 + (1 + n) - 1) 0 ≡ get_or (q ∷ rest) (1 + n - 1) 0
  down n =
      let e : 1 + (1 + n) - 1 ≡ suc n = omega arith in
      let f : 1 + n - 1 ≡ n = omega arith in
      ap (λ (k : ℕ). get_or (p ∷ q ∷ rest) k 0) e ∙ ap (λ (k : ℕ). get_or (q ∷ rest) k 0) (sym f)

pub step_root : (s : Shape) (m : ℕ → Bool) (p : ℕ) → IsWithinLimits s → p < pages_of s → parent_of s p ≡ None → p ≡ next_finer_page s m p
unfolding next_finer_page line_step
step_root s m p limits inside e = sym (ap (line_step m) (root_facts s p limits inside e) ∙ step_one m p)

pub step_below : (s : Shape) (m : ℕ → Bool) (p q : ℕ) → IsWithinLimits s → p < pages_of s → parent_of s p ≡ Some q → m p ≡ false → m q ≡ true
    → p ≡ next_finer_page s m p
unfolding next_finer_page line_step
step_below s m p q limits inside e low high =
    let h = parent_facts s p q limits inside e in
    let b = line_begins s q limits h.inside in
    sym (ap (line_step m) (h.line ∙ ap (λ (l : List ℕ). p ∷ l) b.1) ∙ step_here m p q b.0 low high)

pub step_up : (s : Shape) (m : ℕ → Bool) (p q : ℕ) → IsWithinLimits s → p < pages_of s → parent_of s p ≡ Some q → m p ≡ false → m q ≡ false
    → next_finer_page s m q ≡ next_finer_page s m p
unfolding next_finer_page line_step
step_up s m p q limits inside e low high =
    let h = parent_facts s p q limits inside e in
    let b = line_begins s q limits h.inside in
    sym (ap (line_step m) (h.line ∙ ap (λ (l : List ℕ). p ∷ l) b.1) ∙ step_on m p q b.0 low high ∙ ap (line_step m) (sym b.1))

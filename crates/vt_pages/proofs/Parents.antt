-- The line of a page is the page and the line of its parent.
use Rattle.std.proofs.Common.{◌≡◌, ℕ, zero, suc, ◌+◌, ◌-◌, ◌<◌, ◌≤◌, Option, None, Some, List, [], ◌∷◌, inl, inr, get_or, nat_eq, refl, sym, ap, ◌∙◌, subst, arith}
use Rattle.std.specs.List.{AllPairs, IsDistinct}
use Rattle.std.proofs.lemmas.Grind.{get_or_default_zero}
use Rattle.std.proofs.lemmas.Map.Keys.{IsDistinct-from_apart}
use Rattle.std.proofs.lemmas.Bool.{cases_lt, ne_eqb}
use Rattle.vt_pages.specs.declared.PageName.{PageName}
use Rattle.vt_pages.specs.Shape.{Shape}
use Rattle.vt_pages.specs.Pages.{levels_of, pages_of, index_of, IsPage, IsPageAt, IsWithinLimits, level_of, name_at, parent_name, parent_of, ancestors_from, ancestors_of}
use Rattle.vt_pages.proofs.Names.{name_at_is_page, index_of-name_at, name_at-index, parent_is_page, index_at_is_page, level_of_from}
use Rattle.vt_pages.proofs.Lines.{parent_is, parent_none, name_at-level, reaches_root}

line_over : (s : Shape) (up : ℕ) (p : ℕ) → level_of s p + suc up + 1 ≡ levels_of s
    → ancestors_of s p ≡ index_of s (name_at s p) ∷ ancestors_from s up (parent_name (name_at s p))
unfolding ancestors_of ancestors_from
line_over s up p e = let n : levels_of s - 1 - level_of s p ≡ suc up = omega arith in ap (λ k. ancestors_from s k (name_at s p)) n

line_at_name : (s : Shape) (n : PageName) (up : ℕ) → IsPage s n → n.level + up + 1 ≡ levels_of s → level_of s (index_of s n) ≡ n.level
    → ancestors_of s (index_of s n) ≡ ancestors_from s up n
unfolding ancestors_of
line_at_name s n up h e level =
    let k : levels_of s - 1 - level_of s (index_of s n) ≡ up = omega arith in
    let name : name_at s (index_of s n) ≡ n = name_at-index s n.level n.col n.row h.level_inside h.col_inside h.row_inside in
    ap (λ k. ancestors_from s k (name_at s (index_of s n))) k ∙ ap (ancestors_from s up) name

pub parent_page : (s : Shape) (p : ℕ) → 1 ≤ s.tile → 1 ≤ s.width → p < pages_of s → level_of s p + 1 < levels_of s
    → IsPageAt s (level_of s p + 1) (index_of s (parent_name (name_at s p)))
parent_page s p some wide inside more =
    let page = parent_is_page s (name_at s p) some (name_at_is_page s p some wide inside) (rw name_at-level more) in
    let at = index_at_is_page s (parent_name (name_at s p)).level (parent_name (name_at s p)).col (parent_name (name_at s p)).row
    page.level_inside page.col_inside page.row_inside in
    record { inside = at.inside; level = at.level ∙ ap (λ l. l + 1) (name_at-level s p) }

-- the root's line is the root
pub line-root : (s : Shape) (p : ℕ) → IsWithinLimits s → p < pages_of s → level_of s p + 1 ≡ levels_of s → ancestors_of s p ≡ p ∷ []
unfolding ancestors_of ancestors_from
line-root s p limits inside last =
    let n : levels_of s - 1 - level_of s p ≡ zero = omega arith in
    ap (λ k. ancestors_from s k (name_at s p)) n ∙ ap (λ (i : ℕ). i ∷ []) (index_of-name_at s p (omega (arith, limits.least_tile)) inside)

-- another page's line goes on with that of its parent
pub line-parent : (s : Shape) (p : ℕ) → IsWithinLimits s → p < pages_of s → level_of s p + 1 < levels_of s
    → ancestors_of s p ≡ p ∷ ancestors_of s (index_of s (parent_name (name_at s p)))
line-parent s p limits inside more =
    let n : PageName = name_at s p in
    let tile : 1 ≤ s.tile = omega (arith, limits.least_tile) in
    let up : level_of s p + suc (levels_of s - 2 - level_of s p) + 1 ≡ levels_of s = omega arith in
    let level : n.level ≡ level_of s p = name_at-level s p in
    let page = parent_is_page s n tile (name_at_is_page s p tile limits.least_width inside) (omega arith) in
    let at = parent_page s p tile limits.least_width inside more in
    let up' : (parent_name n).level + (levels_of s - 2 - level_of s p) + 1 ≡ levels_of s = omega arith in
    line_over s (levels_of s - 2 - level_of s p) p up
    ∙ ap (λ (i : ℕ). i ∷ ancestors_from s (levels_of s - 2 - level_of s p) (parent_name n)) (index_of-name_at s p tile inside)
    ∙ ap (λ (l : List ℕ). p ∷ l) (sym (line_at_name s (parent_name n) (levels_of s - 2 - level_of s p) page up' (at.level ∙ omega arith)))

-- what a parent is
pub record IsParent (s : Shape) (p q : ℕ) : Type 0 where
  pub inside : q < pages_of s
  pub level : level_of s q ≡ level_of s p + 1
  pub line : ancestors_of s p ≡ p ∷ ancestors_of s q

pub level_below : (s : Shape) (p : ℕ) → IsWithinLimits s → p < pages_of s → level_of s p < levels_of s
level_below s p limits inside = (level_of_from s p (omega (arith, limits.least_tile)) inside).2

pub parent_facts : (s : Shape) (p q : ℕ) → IsWithinLimits s → p < pages_of s → parent_of s p ≡ Some q → IsParent s p q
parent_facts s p q limits inside e = elim (cases_lt (level_of s p + 1) (levels_of s)) [
  | inl more ↦
      let at = parent_page s p (omega (arith, limits.least_tile)) limits.least_width inside more in
      let found : Some (index_of s (parent_name (name_at s p))) ≡ Some q = sym (parent_is s p more) ∙ e in
      let same : index_of s (parent_name (name_at s p)) ≡ q = (cc) in
      record {
        inside = subst (λ (r : ℕ). r < pages_of s) same at.inside;
        level = subst (λ (r : ℕ). level_of s r ≡ level_of s p + 1) same at.level;
        line = subst (λ (r : ℕ). ancestors_of s p ≡ p ∷ ancestors_of s r) same (line-parent s p limits inside more);
      }
  | inr last ↦
      let below = level_below s p limits inside in
      let none : parent_of s p ≡ None = parent_none s p (omega arith) in
      absurd (cc)
]

pub root_facts : (s : Shape) (p : ℕ) → IsWithinLimits s → p < pages_of s → parent_of s p ≡ None → ancestors_of s p ≡ p ∷ []
root_facts s p limits inside e = elim (cases_lt (level_of s p + 1) (levels_of s)) [
  | inl more ↦ let found = parent_is s p more in absurd (cc)
  | inr last ↦ let below = level_below s p limits inside in line-root s p limits inside (omega arith)
]

-- a line begins with its page
pub line_begins : (s : Shape) (q : ℕ) → IsWithinLimits s → q < pages_of s → (rest : List ℕ) × (ancestors_of s q ≡ q ∷ rest)
line_begins s q limits inside = first (parent_of s q) refl where
  first : (o : Option ℕ) → parent_of s q ≡ o → (rest : List ℕ) × (ancestors_of s q ≡ q ∷ rest)
  first None e = ([], root_facts s q limits inside e)
  first (Some r) e = (ancestors_of s r, (parent_facts s q r limits inside e).line)

-- the levels rise along a line
pub line_rises : (s : Shape) (p : ℕ) → IsWithinLimits s → p < pages_of s → AllPairs (λ a b. level_of s a < level_of s b) (ancestors_of s p)
line_rises s p limits inside =
    let line = reaches_root s p (omega (arith, limits.least_tile)) limits.least_width limits.least_height inside in
    λ i j d below within.
    let one : get_or (ancestors_of s p) i d ≡ get_or (ancestors_of s p) i 0 = get_or_default_zero (ancestors_of s p) i d (omega arith) in
    let two : get_or (ancestors_of s p) j d ≡ get_or (ancestors_of s p) j 0 = get_or_default_zero (ancestors_of s p) j d within in
    let first = (line.levels i (omega arith)).1 in
    let second = (line.levels j within).1 in
    rw (one, two) (omega (arith, first, second))

-- no page is twice in a line
pub line_distinct : (s : Shape) (p : ℕ) → IsWithinLimits s → p < pages_of s → IsDistinct nat_eq (ancestors_of s p)
line_distinct s p limits inside =
    let line = reaches_root s p (omega (arith, limits.least_tile)) limits.least_width limits.least_height inside in
    IsDistinct-from_apart nat_eq (ancestors_of s p) (λ i j d below within.
    let one : get_or (ancestors_of s p) i d ≡ get_or (ancestors_of s p) i 0 = get_or_default_zero (ancestors_of s p) i d (omega arith) in
    let two : get_or (ancestors_of s p) j d ≡ get_or (ancestors_of s p) j 0 = get_or_default_zero (ancestors_of s p) j d within in
    rw (one, two) (ne_eqb (get_or (ancestors_of s p) i 0) (get_or (ancestors_of s p) j 0) (λ e.
    let first = (line.levels i (omega arith)).1 in let second = (line.levels j within).1 in
    let l : level_of s (get_or (ancestors_of s p) i 0) ≡ level_of s (get_or (ancestors_of s p) j 0) = ap (level_of s) e in omega (arith, first, second))))

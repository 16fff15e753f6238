-- Walks over lines: a list of pages that has the parent of each of its pages has their lines.
use Rattle.std.proofs.Common.{◌≡◌, ℕ, zero, suc, ◌+◌, ◌-◌, ◌<◌, Option, None, Some, List, [], ◌∷◌, ◌++◌, Bool, cond, not, ◌||◌, inl, inr, reverse, append-nil, append_assoc, get_or, nat_eq, false, true, refl, sym, ap, ◌∙◌, arith}
use Rattle.std.specs.List.{AllByRecursion, IsDistinct, filter, flat_map}
use Rattle.std.proofs.lemmas.Grind.{flat_map-append}
use Rattle.std.proofs.lemmas.List.Sorted.{IsPermutation-reverse}
use Rattle.std.proofs.lemmas.Map.Keys.{IsDistinct-IsPermutation}
use Rattle.std.proofs.lemmas.Bool.{false≢true, cases_lt, ne_eqb}
use Rattle.std.proofs.lemmas.List.{reverse-append}
use Rattle.std.proofs.lemmas.Bool.Decides.{nat_tests}
use Rattle.std.proofs.lemmas.List.Elements.{All-from_get_or, filter-append}
use Rattle.std.proofs.lemmas.List.Folds.{list_any_none}
use Rattle.vt_plan.specs.Shape.{Shape}
use Rattle.vt_plan.specs.Pages.{levels_of, pages_of, index_of, IsWithinLimits, level_of, name_at, parent_name, parent_of, ancestors_of}
use Rattle.vt_plan.proofs.Lines.{parent_is, reaches_root}
use Rattle.vt_plan.proofs.Parents.{parent_page, line-root, line-parent, parent_facts, root_facts, level_below, line_distinct}
use Rattle.vt_plan.specs.Orders.{line_pages}
use Rattle.vt_plan.specs.PageLists.{is_in, each_once, with_page}
use Rattle.vt_evict.specs.Kept.{HasParents}
use Rattle.vt_evict.proofs.ListLemmas.{nat_eq_swap, each_once-distinct, filter_none, by_recursion-reverse, is_in-more, is_in-reverse}
use Rattle.vt_plan.proofs.ListLemmas.{nat_eq_true, filter_same, is_in-each_once, each_once-append}
use Rattle.vt_evict.proofs.WalkLemmas.{is_in-push, or_true, or_false}

-- no page of a coarser page's line is this page
pub not_above : (s : Shape) (p q : ℕ) → IsWithinLimits s → q < pages_of s → level_of s p < level_of s q → is_in (ancestors_of s q) p ≡ false
not_above s p q limits inside above =
    let line = reaches_root s q (omega (arith, limits.least_tile)) limits.least_width limits.least_height inside in
    list_any_none (nat_eq p) (ancestors_of s q) (All-from_get_or (λ x. nat_eq p x ≡ false) (ancestors_of s q) 0
    (λ i h. ne_eqb p (get_or (ancestors_of s q) i 0) (λ e. let level = (line.levels i h).1 in let l : level_of s p ≡ level_of s
    (get_or (ancestors_of s q) i 0) = ap (level_of s) e in omega (arith, level, l))))

-- a page of a line is one of the chain's
pub line_below : (s : Shape) (q p : ℕ) → IsWithinLimits s → q < pages_of s → is_in (ancestors_of s q) p ≡ true → p < pages_of s
line_below s q p limits inside there = elim (cases_lt p (pages_of s)) [
  | inl below ↦ below
  | inr past ↦
      let line = reaches_root s q (omega (arith, limits.least_tile)) limits.least_width limits.least_height inside in
      absurd (false≢true (sym (list_any_none (nat_eq p) (ancestors_of s q) (All-from_get_or (λ x. nat_eq p x ≡ false) (ancestors_of s q) 0
      (λ i h. ne_eqb p (get_or (ancestors_of s q) i 0) (λ e. omega (arith, e, (line.levels i h).0))))) ∙ there))
]

-- a list with a page that it lacked
pub with_new : (xs : List ℕ) (p : ℕ) → is_in xs p ≡ false → with_page xs p ≡ xs ++ p ∷ []
with_new xs p e = ap (λ (b : Bool). cond b xs (xs ++ p ∷ [])) e

-- a closed list that has a page has its line
pub line_within : (s : Shape) (w : List ℕ) (up p : ℕ) → IsWithinLimits s → HasParents s w → level_of s p + up + 1 ≡ levels_of s → p < pages_of s
    → is_in w p ≡ true
    → AllByRecursion (λ r. is_in w r ≡ true) (ancestors_of s p)
line_within s w zero p limits closed up inside there = rw (line-root s p limits inside (omega arith)) (there, tt)
line_within s w (suc up) p limits closed e inside there =
    let more : level_of s p + 1 < levels_of s = omega arith in
    let at = parent_page s p (omega (arith, limits.least_tile)) limits.least_width inside more in
    rw (line-parent s p limits inside more) (
      there,
      line_within s w up (index_of s (parent_name (name_at s p))) limits closed (omega (arith, at.level)) at.inside
          (closed.parents p _ there (parent_is s p more)),
    )

-- the pages that a walk over the line of a page adds to a list
abbrev pub walked_over : Shape → List ℕ → ℕ → List ℕ
walked_over s w p = w ++ filter (λ r. not (is_in w r)) (reverse (ancestors_of s p))

reverse-cons : (x : ℕ) (xs : List ℕ) → reverse (x ∷ xs) ≡ reverse xs ++ x ∷ []
reverse-cons x xs = reverse-append (x ∷ []) xs

nots : (w xs : List ℕ) → AllByRecursion (λ r. is_in w r ≡ true) xs → AllByRecursion (λ r. not (is_in w r) ≡ false) xs
nots w [] h = tt
nots w (x ∷ xs) h = (ap not h.0, nots w xs h.1)

pub over_none : (s : Shape) (w : List ℕ) (p : ℕ) → IsWithinLimits s → HasParents s w → p < pages_of s → is_in w p ≡ true → w ≡ walked_over s w p
over_none s w p limits closed inside there =
    let below = level_below s p limits inside in
    let all = line_within s w (levels_of s - 1 - level_of s p) p limits closed (omega arith) inside there in
    sym (ap (λ (l : List ℕ). w ++ l) (filter_none (λ r. not (is_in w r)) (reverse (ancestors_of s p))
    (by_recursion-reverse _ (ancestors_of s p) (nots w (ancestors_of s p) all)))
    ∙ append-nil w)

one : (w : List ℕ) (p : ℕ) → is_in w p ≡ false → filter (λ r. not (is_in w r)) (p ∷ []) ≡ p ∷ []
one w p new = rw new refl

pub over_root : (s : Shape) (w : List ℕ) (p : ℕ) → IsWithinLimits s → p < pages_of s → parent_of s p ≡ None → is_in w p ≡ false
    → w ++ p ∷ [] ≡ walked_over s w p
over_root s w p limits inside e new = rw (root_facts s p limits inside e) (ap (λ (l : List ℕ). w ++ l) (sym (one w p new)))

pub over_more : (s : Shape) (w v : List ℕ) (p q : ℕ) → IsWithinLimits s → p < pages_of s → parent_of s p ≡ Some q → is_in w p ≡ false
    → v ≡ walked_over s w q → v ++ p ∷ [] ≡ walked_over s w p
over_more s w v p q limits inside e new is =
    let h = parent_facts s p q limits inside e in
    let t : ℕ → Bool = λ r. not (is_in w r) in
    ap (λ (l : List ℕ). l ++ p ∷ []) is ∙ append_assoc w _ _
    ∙ ap (λ (l : List ℕ). w ++ l) (
    ap (λ (l : List ℕ). filter t (reverse (ancestors_of s q)) ++ l) (sym (one w p new))
    ∙ sym (filter-append t (reverse (ancestors_of s q)) (p ∷ []))
    ∙ ap (filter t) (sym (reverse-cons p (ancestors_of s q)) ∙ ap reverse (sym h.line)))

pub still_new : (s : Shape) (w : List ℕ) (p q : ℕ) → IsWithinLimits s → p < pages_of s → parent_of s p ≡ Some q → is_in w p ≡ false
    → is_in (walked_over s w q) p ≡ false
still_new s w p q limits inside e new =
    let h = parent_facts s p q limits inside e in
    let line : is_in (reverse (ancestors_of s q)) p ≡ false = is_in-reverse (ancestors_of s q) p ∙ not_above s p q limits h.inside (omega (arith, h.level)) in
    is_in-more w (reverse (ancestors_of s q)) p ∙ rw (new, line) refl

first_in : (s : Shape) (q : ℕ) → IsWithinLimits s → q < pages_of s → is_in (ancestors_of s q) q ≡ true
first_in s q limits inside = first (parent_of s q) refl where
  same : nat_eq q q ≡ true
  same = grind (arith, nat_tests)

  first : (o : Option ℕ) → parent_of s q ≡ o → is_in (ancestors_of s q) q ≡ true
  first None e = rw (root_facts s q limits inside e, same) refl
  first (Some r) e = rw ((parent_facts s q r limits inside e).line, same) refl

pub parent_in : (s : Shape) (w : List ℕ) (q : ℕ) → IsWithinLimits s → q < pages_of s → is_in (walked_over s w q) q ≡ true
parent_in s w q limits inside =
    is_in-more w (reverse (ancestors_of s q)) q ∙ ap (λ (b : Bool). is_in w q || b) (is_in-reverse (ancestors_of s q) q ∙ first_in s q limits inside)
    ∙ or_true (is_in w q)

pub closed_push : (s : Shape) (w : List ℕ) (p : ℕ) → HasParents s w → ((q : ℕ) → parent_of s p ≡ Some q → is_in w q ≡ true) → HasParents s (w ++ p ∷ [])
closed_push s w p closed parent = record { parents = λ r q there e. is_in-push w p q ∙ found r q there e (nat_eq r p) refl } where
  found : (r q : ℕ) → is_in (w ++ p ∷ []) r ≡ true → parent_of s r ≡ Some q → (b : Bool) → nat_eq r p ≡ b → (is_in w q || nat_eq q p) ≡ true
  found r q there e true same = rw (parent q (ap (parent_of s) (sym (nat_eq_true r p same)) ∙ e)) refl
  found r q there e false other =
      let before : is_in w r ≡ true = sym (or_false (is_in w r)) ∙ ap (λ (b : Bool). is_in w r || b) (sym other) ∙ sym (is_in-push w p r) ∙ there in
      rw (closed.parents r q before e) refl

-- one page more, whose line was walked over last
pub line_pages-more : (s : Shape) (ps : List ℕ) (p : ℕ) → IsWithinLimits s → p < pages_of s → line_pages s (ps ++ p ∷ []) ≡ walked_over s (line_pages s ps) p
unfolding line_pages
line_pages-more s ps p limits inside =
    let f : ℕ → List ℕ = λ q. reverse (ancestors_of s q) in
    let before : List ℕ = flat_map f ps in
    let flat : flat_map f (ps ++ p ∷ []) ≡ flat_map f ps ++ reverse (ancestors_of s p) =
    flat_map-append f ps (p ∷ []) ∙ ap (λ (l : List ℕ). flat_map f ps ++ l) (append-nil (reverse (ancestors_of s p))) in
    let once : IsDistinct nat_eq (reverse (ancestors_of s p)) =
    IsDistinct-IsPermutation nat_eq nat_eq_swap (ancestors_of s p) (reverse (ancestors_of s p)) (IsPermutation-reverse (ancestors_of s p)) (line_distinct s p limits inside) in
    ap each_once flat ∙ each_once-append (flat_map f ps) (reverse (ancestors_of s p))
    ∙ ap (λ (l : List ℕ). each_once (flat_map f ps) ++ l) (
    ap (filter (λ r. not (is_in (flat_map f ps) r))) (each_once-distinct (reverse (ancestors_of s p)) once)
    ∙ filter_same _ _ (reverse (ancestors_of s p)) (λ r. ap not (sym (is_in-each_once (flat_map f ps) r))))

pub line_pages-none : (s : Shape) → line_pages s [] ≡ []
unfolding line_pages
line_pages-none s = refl

pub closed_none : (s : Shape) → HasParents s []
closed_none s = record { parents = λ p q there e. absurd (false≢true there) }

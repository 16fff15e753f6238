-- The pages of lines go by the first wanted page whose line has them, and then from coarse to fine.
use Rattle.std.proofs.Common.{◌≡◌, ℕ, ◌+◌, ◌<◌, ◌≤◌, ◌⊎◌, inl, inr, Bool, true, false, not, ◌||◌, List, [], ◌∷◌, ◌++◌, reverse, length, nat_eq, get_or, append-nil, refl, sym, ap, ◌∙◌, subst, arith}
use Rattle.std.specs.List.{All, AllByRecursion, AllPairs, IsDistinct, filter, flat_map, list_any, position_or_len, range_with_len}
use Rattle.std.specs.Cmp.{nat_eq_equiv}
use Rattle.std.proofs.lemmas.Bool.{false≢true}
use Rattle.std.proofs.lemmas.List.FromFn.{length-range_with_len}
use Rattle.std.proofs.lemmas.Map.Made.{length-le_from_is_member}
use Rattle.std.proofs.lemmas.List.Elements.{All-head, All-tail, filter_passes, recursion_from_All}
use Rattle.std.proofs.lemmas.List.Kept.{AllPairs-filter}
use Rattle.vt_plan.specs.Shape.{Shape}
use Rattle.vt_plan.specs.Pages.{pages_of, level_of, ancestors_of, IsWithinLimits}
use Rattle.vt_plan.proofs.Parents.{line_rises}
use Rattle.vt_plan.specs.Orders.{line_pages}
use Rattle.vt_plan.specs.PageLists.{is_in, each_once}
use Rattle.vt_evict.proofs.ListLemmas.{below_in, is_in-append, is_in-reverse, each_once_distinct}
use Rattle.vt_plan.proofs.ListLemmas.{is_in-each_once, each_once-append, filter_all, all_true}
use Rattle.vt_evict.proofs.LineLemmas.{line_below, line_pages-more}
use Rattle.vt_evict.proofs.PairLemmas.{pairs_append, pairs_reverse, all_in, not_true}

-- the place of the first page of a list whose line has a page
abbrev pub first_of : Shape → List ℕ → ℕ → ℕ
first_of s ps p = position_or_len (λ q. is_in (ancestors_of s q) p) ps

-- a page is in an earlier line than another, or in the same one and is coarser
abbrev pub IsEarlier : Shape → (ℕ → ℕ) → ℕ → ℕ → Type 0
IsEarlier s f p q = (f p < f q) ⊎ ((f p ≡ f q) × (level_of s q < level_of s p))

-- a page is not in the line of another
abbrev is_off : Shape → ℕ → ℕ → Bool
is_off s p r = not (is_in (reverse (ancestors_of s p)) r)

-- which pages are in lines
pub in_lines : (s : Shape) (ps : List ℕ) (p : ℕ) → is_in (line_pages s ps) p ≡ list_any (λ q. is_in (ancestors_of s q) p) ps
unfolding line_pages
in_lines s ps p = is_in-each_once (flat_map (λ q. reverse (ancestors_of s q)) ps) p ∙ each ps where
  each : (qs : List ℕ) → is_in (flat_map (λ q. reverse (ancestors_of s q)) qs) p ≡ list_any (λ q. is_in (ancestors_of s q) p) qs
  each [] = refl
  each (q ∷ qs) =
      is_in-append (reverse (ancestors_of s q)) (flat_map (λ q. reverse (ancestors_of s q)) qs) p
      ∙ ap (λ (b : Bool). b || is_in (flat_map (λ q. reverse (ancestors_of s q)) qs) p) (is_in-reverse (ancestors_of s q) p)
      ∙ ap (λ (b : Bool). is_in (ancestors_of s q) p || b) (each qs)

-- the pages of lines are pages of the chain
lines_below : (s : Shape) (ps : List ℕ) (p : ℕ) → IsWithinLimits s → AllByRecursion (λ q. q < pages_of s) ps
    → list_any (λ q. is_in (ancestors_of s q) p) ps ≡ true → p < pages_of s
lines_below s [] p limits inside there = absurd (false≢true there)
lines_below s (q ∷ qs) p limits inside there = split (λ e. lines_below s qs p limits inside.1 e) (is_in (ancestors_of s q) p) refl there where
  split : (list_any (λ q. is_in (ancestors_of s q) p) qs ≡ true → p < pages_of s) → (b : Bool) → is_in (ancestors_of s q) p ≡ b
      → (b || list_any (λ q. is_in (ancestors_of s q) p) qs) ≡ true → p < pages_of s
  split rest true here e = line_below s q p limits inside.0 here
  split rest false here e = rest e

lines_apart : (s : Shape) (ps : List ℕ) → IsDistinct nat_eq (line_pages s ps)
unfolding line_pages
lines_apart s ps = each_once_distinct _

-- and so there are at most as many
pub lines_few : (s : Shape) (ps : List ℕ) → IsWithinLimits s → All (λ q. q < pages_of s) ps → length (line_pages s ps) ≤ pages_of s
lines_few s ps limits inside =
    let l : length (line_pages s ps) ≤ length (range_with_len 0 (pages_of s)) =
    length-le_from_is_member nat_eq_equiv (line_pages s ps) (range_with_len 0 (pages_of s)) (lines_apart s ps)
    (λ q e. below_in (pages_of s) q (lines_below s ps q limits (recursion_from_All _ ps inside) (sym (in_lines s ps q) ∙ e))) in
    omega (arith, length-range_with_len 0 (pages_of s))

line_once : (s : Shape) (p : ℕ) → IsWithinLimits s → p < pages_of s → each_once (reverse (ancestors_of s p)) ≡ reverse (ancestors_of s p)
unfolding line_pages
line_once s p limits inside =
    ap each_once (sym (append-nil (reverse (ancestors_of s p)))) ∙ line_pages-more s [] p limits inside
    ∙ filter_all (λ (r : ℕ). true) (reverse (ancestors_of s p)) (all_true (reverse (ancestors_of s p)))

line_pages-cons : (s : Shape) (p : ℕ) (ps : List ℕ) → IsWithinLimits s → p < pages_of s
    → line_pages s (p ∷ ps) ≡ reverse (ancestors_of s p) ++ filter (is_off s p) (line_pages s ps)
unfolding line_pages
line_pages-cons s p ps limits inside =
    each_once-append (reverse (ancestors_of s p)) (flat_map (λ q. reverse (ancestors_of s q)) ps)
    ∙ ap (λ (l : List ℕ). l ++ filter (is_off s p) (each_once (flat_map (λ q. reverse (ancestors_of s q)) ps))) (line_once s p limits inside)

first-here : (s : Shape) (q : ℕ) (ps : List ℕ) (p : ℕ) → is_in (ancestors_of s q) p ≡ true → first_of s (q ∷ ps) p ≡ 0
first-here s q ps p e = rw e refl

first-there : (s : Shape) (q : ℕ) (ps : List ℕ) (p : ℕ) → is_in (ancestors_of s q) p ≡ false → first_of s (q ∷ ps) p ≡ 1 + first_of s ps p
first-there s q ps p e = rw e refl

later : (s : Shape) (f g : ℕ → ℕ) (p q : ℕ) → g p ≡ 1 + f p → g q ≡ 1 + f q → IsEarlier s f p q → IsEarlier s g p q
later s f g p q ep eq (inl less) = inl (omega arith)
later s f g p q ep eq (inr same) = inr (omega (arith, same.0), same.1)

pub lines_ordered : (s : Shape) (ps : List ℕ) → IsWithinLimits s → All (λ p. p < pages_of s) ps → AllPairs (IsEarlier s (first_of s ps)) (line_pages s ps)
unfolding line_pages
lines_ordered s [] limits inside = λ i j d lt within. absurd (omega arith)
lines_ordered s (p ∷ ps) limits inside =
    joined (All-head (λ p. p < pages_of s) p ps inside) (lines_ordered s ps limits (All-tail (λ p. p < pages_of s) p ps inside)) where
      f : ℕ → ℕ
      f = first_of s (p ∷ ps)

      here : All (λ q. f q ≡ 0) (reverse (ancestors_of s p))
      here = λ k d within.
          first-here s p ps (get_or (reverse (ancestors_of s p)) k d)
          (sym (is_in-reverse (ancestors_of s p) (get_or (reverse (ancestors_of s p)) k d)) ∙ all_in (reverse (ancestors_of s p)) k d within)

      there : (l : List ℕ) → All (λ q. f q ≡ 1 + first_of s ps q) (filter (is_off s p) l)
      there l = λ k d within.
          first-there s p ps (get_or (filter (is_off s p) l) k d)
          (sym (is_in-reverse (ancestors_of s p) (get_or (filter (is_off s p) l) k d))
          ∙ not_true _ (filter_passes (is_off s p) l k d within))

      first : p < pages_of s → AllPairs (IsEarlier s f) (reverse (ancestors_of s p))
      first below = λ i j d lt within.
          inr (
            here i d (omega arith) ∙ sym (here j d within),
            pairs_reverse (λ a b. level_of s a < level_of s b) (ancestors_of s p) (line_rises s p limits below) i j d lt within,
          )

      second : (l : List ℕ) → AllPairs (IsEarlier s (first_of s ps)) l → AllPairs (IsEarlier s f) (filter (is_off s p) l)
      second l h = λ i j d lt within.
          later s (first_of s ps) f _ _ (there l i d (omega arith)) (there l j d within)
          (AllPairs-filter (IsEarlier s (first_of s ps)) (is_off s p) l h i j d lt within)

      joined : p < pages_of s → AllPairs (IsEarlier s (first_of s ps)) (line_pages s ps) → AllPairs (IsEarlier s f) (line_pages s (p ∷ ps))
      joined below rest =
          subst (λ (l : List ℕ). AllPairs (IsEarlier s f) l) (sym (line_pages-cons s p ps limits below))
          (pairs_append (IsEarlier s f) (reverse (ancestors_of s p)) (filter (is_off s p) (line_pages s ps))
          (first below) (second (line_pages s ps) rest)
          (λ k d within m e inner. inl (let a = here k d within in let b = there (line_pages s ps) m e inner in omega (arith, a, b))))

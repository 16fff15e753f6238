-- The free frames, as a set in order and as the frames that no page has.
use Rattle.std.proofs.Common.{◌≡◌, ℕ, zero, suc, ◌+◌, ◌<◌, Bool, true, false, not, cond, ◌&&◌, ◌||◌, nat_eq, nat_lt, nat_le, List, ◌∷◌, refl, sym, ap, ◌∙◌, arith}
use Rattle.std.specs.List.{AllByRecursion, filter, list_any, range_with_len}
use Rattle.std.specs.List.Sorted.{IsStrictlySortedBy}
use Rattle.std.specs.Ordering.{nat_cmp, is_eq}
use Rattle.std.specs.declared.cmp.Ordering.TheVariants.{Less}
use Rattle.std.proofs.lemmas.Cmp.{nat_cmp_total}
use Rattle.std.proofs.lemmas.Map.Lookups.{btree_set_from_contains, CmpEqualImpliesEq}
use Rattle.std.proofs.lemmas.Bool.Decides.{nat_tests}
use Rattle.vt_plan.specs.PageLists.{is_in}
use Rattle.vt_plan.specs.Views.{RecencyView, is_held, free_frames}
use Rattle.vt_evict.proofs.ListLemmas.{by_recursion-filter}
use Rattle.vt_plan.proofs.ListLemmas.{is_in-filter}

pub same_test : (x y : ℕ) → nat_eq x y ≡ is_eq (nat_cmp x y)
same_test x y = grind (arith, nat_tests)

pub is_in_as : (xs : List ℕ) (q : ℕ) → is_in xs q ≡ list_any (λ k. is_eq (nat_cmp q k)) xs
is_in_as xs q = ap (λ (t : ℕ → Bool). list_any t xs) (λ i k. same_test q k i)

equal_same : CmpEqualImpliesEq nat_cmp
equal_same x y e = let h : nat_eq x y ≡ true = same_test x y ∙ ap is_eq e in grind (arith, nat_tests)

less_is : (a b : ℕ) → a < b → nat_cmp a b ≡ Less
less_is a b h = let t : nat_lt a b ≡ true = grind (arith, nat_tests) in rw t refl

range_above : (b a n : ℕ) → b < a → AllByRecursion (λ y. nat_cmp b y ≡ Less) (range_with_len a n)
range_above b a zero h = tt
range_above b a (suc n) h = (less_is b a h, range_above b (a + 1) n (omega arith))

range_sorted : (t : ℕ → Bool) (a n : ℕ) → IsStrictlySortedBy nat_cmp (filter t (range_with_len a n))
unfolding IsStrictlySortedBy
range_sorted t a zero = tt
range_sorted t a (suc n) = step (t a) (range_sorted t (a + 1) n) where
  step : (b : Bool) → IsStrictlySortedBy nat_cmp (filter t (range_with_len (a + 1) n))
      → IsStrictlySortedBy nat_cmp (cond b (a ∷ filter t (range_with_len (a + 1) n)) (filter t (range_with_len (a + 1) n)))
  step true rest = (by_recursion-filter (λ y. nat_cmp a y ≡ Less) t (range_with_len (a + 1) n) (range_above a (a + 1) n (omega arith)), rest)
  step false rest = rest

pub is_in-range : (a n p : ℕ) → is_in (range_with_len a n) p ≡ (nat_le a p && nat_lt p (a + n))
is_in-range a zero p = none a p where
  none : (a p : ℕ) → false ≡ (nat_le a p && nat_lt p (a + 0))
  none a p = grind (arith, nat_tests)
is_in-range a (suc n) p = ap (λ (b : Bool). nat_eq p a || b) (is_in-range (a + 1) n p) ∙ more a n p where
  more : (a n p : ℕ) → (nat_eq p a || (nat_le (a + 1) p && nat_lt p (a + 1 + n))) ≡ (nat_le a p && nat_lt p (a + suc n))
  more a n p = grind (arith, nat_tests)

pub free_is : (v : RecencyView) (free : List ℕ) → IsStrictlySortedBy nat_cmp free
    → ((f : ℕ) → is_in free f ≡ (nat_lt f v.frames && not (is_held v.entries f))) → free ≡ free_frames v
unfolding free_frames
free_is v free sorted h =
    btree_set_from_contains nat_cmp_total (record { keys = free })
    (record { keys = filter (λ f. not (is_held v.entries f)) (range_with_len 0 v.frames) }) sorted
    (range_sorted (λ f. not (is_held v.entries f)) 0 v.frames)
    (λ q. sym (is_in_as free q) ∙ h q ∙ sym (in_filter q) ∙ is_in_as (filter (λ f. not (is_held v.entries f)) (range_with_len 0 v.frames)) q)
    equal_same where
      plain : (q n : ℕ) (b : Bool) → ((nat_le 0 q && nat_lt q (0 + n)) && b) ≡ (nat_lt q n && b)
      plain q n true = grind (arith, nat_tests)
      plain q n false = grind (arith, nat_tests)

      in_filter : (q : ℕ) → is_in (filter (λ f. not (is_held v.entries f)) (range_with_len 0 v.frames)) q ≡ (nat_lt q v.frames && not (is_held v.entries q))
      in_filter q = is_in-filter (λ f. not (is_held v.entries f)) (range_with_len 0 v.frames) q
          ∙ ap (λ (b : Bool). b && not (is_held v.entries q)) (is_in-range 0 v.frames q) ∙ plain q v.frames (not (is_held v.entries q))

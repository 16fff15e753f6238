-- Lists of pages without repeats.
use Rattle.std.proofs.Common.{◌≡◌, ℕ, zero, suc, ◌+◌, ◌<◌, ◌≤◌, Bool, true, false, not, cond, ◌&&◌, ◌||◌, nat_eq, List, [], ◌∷◌, ◌++◌, length, reverse, refl, sym, ap, ◌∙◌, arith}
use Rattle.std.specs.List.{filter, AllByRecursion, IsDistinct, range_with_len}
use Rattle.std.specs.Cmp.{nat_eq_equiv}
use Rattle.std.proofs.lemmas.Bool.{false≢true}
use Rattle.std.proofs.lemmas.Bool.Decides.{nat_tests}
use Rattle.std.proofs.lemmas.List.Elements.{filter-append, All-from_recursion, recursion_from_All}
use Rattle.std.proofs.lemmas.List.Folds.{list_any-append, list_any_at}
use Rattle.std.proofs.lemmas.List.Sorted.{All-permutation, IsPermutation-reverse, list_any-IsPermutation}
use Rattle.std.proofs.lemmas.Map.Made.{length-le_from_is_member}
use Rattle.std.proofs.lemmas.List.FromFn.{length-range_with_len, get_or-range_with_len}
use Rattle.vt_plan.specs.PageLists.{is_in, each_once}
use Rattle.vt_plan.proofs.ListLemmas.{nat_eq_true, filter_twice, filter_same, is_in-filter, neither, filter_all, all_true}
use Rattle.vt_plan.specs.Orders.{put_first}

pub nat_eq_swap : (x y : ℕ) → nat_eq x y ≡ nat_eq y x
nat_eq_swap x y = grind (arith, nat_tests)

pub and_true : (b : Bool) → (b && true) ≡ b
and_true true = refl
and_true false = refl

pub is_in-append : (xs ys : List ℕ) (p : ℕ) → is_in (xs ++ ys) p ≡ (is_in xs p || is_in ys p)
is_in-append xs ys p = list_any-append (nat_eq p) xs ys

pub is_in-reverse : (xs : List ℕ) (p : ℕ) → is_in (reverse xs) p ≡ is_in xs p
is_in-reverse xs p = sym (list_any-IsPermutation (nat_eq p) xs (reverse xs) (IsPermutation-reverse xs))

-- a test that no element passes keeps none
pub filter_none : {X : Type 0} (p : X → Bool) (xs : List X) → AllByRecursion (λ x. p x ≡ false) xs → filter p xs ≡ []
filter_none p [] h = refl
filter_none p (x ∷ xs) h = rw (h.0, filter_none p xs h.1) refl

pub by_recursion-filter : {X : Type 0} (P : X → Type 0) (p : X → Bool) (xs : List X) → AllByRecursion P xs → AllByRecursion P (filter p xs)
by_recursion-filter P p [] h = tt
by_recursion-filter P p (x ∷ xs) h = step (p x) (by_recursion-filter P p xs h.1) where
  step : (b : Bool) → AllByRecursion P (filter p xs) → AllByRecursion P (cond b (x ∷ filter p xs) (filter p xs))
  step true rest = (h.0, rest)
  step false rest = rest

pub distinct-filter : (p : ℕ → Bool) (xs : List ℕ) → IsDistinct nat_eq xs → IsDistinct nat_eq (filter p xs)
unfolding IsDistinct
distinct-filter p [] h = tt
distinct-filter p (x ∷ xs) h = step (p x) (distinct-filter p xs h.1) where
  step : (b : Bool) → IsDistinct nat_eq (filter p xs) → IsDistinct nat_eq (cond b (x ∷ filter p xs) (filter p xs))
  step true rest = (by_recursion-filter (λ y. nat_eq x y ≡ false) p xs h.0, rest)
  step false rest = rest

-- an element that is not in a list is none of its elements
pub absent : (x : ℕ) (xs : List ℕ) → is_in xs x ≡ false → AllByRecursion (λ y. nat_eq x y ≡ false) xs
absent x [] h = tt
absent x (y ∷ xs) h = split (absent x xs) (nat_eq x y) refl h where
  split : (is_in xs x ≡ false → AllByRecursion (λ y. nat_eq x y ≡ false) xs) → (b : Bool) → nat_eq x y ≡ b → (b || is_in xs x) ≡ false
      → (nat_eq x y ≡ false) × AllByRecursion (λ y. nat_eq x y ≡ false) xs
  split rest true e k = absurd (false≢true (sym k))
  split rest false e k = (e, rest k)

pub present : (x : ℕ) (xs : List ℕ) → AllByRecursion (λ y. nat_eq x y ≡ false) xs → is_in xs x ≡ false
present x [] h = refl
present x (y ∷ xs) h = rw (h.0) (present x xs h.1)

nots : (x : ℕ) (xs : List ℕ) → AllByRecursion (λ y. nat_eq x y ≡ false) xs → AllByRecursion (λ y. not (nat_eq x y) ≡ true) xs
nots x [] h = tt
nots x (y ∷ xs) h = (ap not h.0, nots x xs h.1)

-- without an element that is not there a list is the same
pub filter_absent : (x : ℕ) (xs : List ℕ) → is_in xs x ≡ false → filter (λ y. not (nat_eq x y)) xs ≡ xs
filter_absent x xs h = filter_all (λ y. not (nat_eq x y)) xs (nots x xs (absent x xs h))

-- a list without repeats is each of its elements once
pub each_once-distinct : (xs : List ℕ) → IsDistinct nat_eq xs → each_once xs ≡ xs
unfolding IsDistinct
each_once-distinct [] h = refl
each_once-distinct (x ∷ xs) h = rw (each_once-distinct xs h.1) (ap (λ (l : List ℕ). x ∷ l) (filter_all (λ y. not (nat_eq x y)) xs (nots x xs h.0)))

gone : (x : ℕ) (xs : List ℕ) → is_in (filter (λ y. not (nat_eq x y)) xs) x ≡ false
gone x xs = rw (is_in-filter (λ y. not (nat_eq x y)) xs x) (same (is_in xs x)) where
  same : (b : Bool) → (b && not (nat_eq x x)) ≡ false
  same b = grind (arith, nat_tests)

pub each_once_distinct : (xs : List ℕ) → IsDistinct nat_eq (each_once xs)
unfolding IsDistinct
each_once_distinct [] = tt
each_once_distinct (x ∷ xs) = (
  absent x (filter (λ y. not (nat_eq x y)) (each_once xs)) (gone x (each_once xs)),
  distinct-filter
      (λ y. not (nat_eq x y)) (each_once xs) (each_once_distinct xs),
)

pub below_in : (n p : ℕ) → p < n → is_in (range_with_len 0 n) p ≡ true
below_in n p h = list_any_at (nat_eq p) (range_with_len 0 n) p 0 (rw length-range_with_len h) (rw (get_or-range_with_len 0 n p 0 h) (grind (arith, nat_tests)))

-- so many numbers below n without repeats, one of them not in a list of the others, are at most n
pub room_for : (n x : ℕ) (xs : List ℕ) → x < n → is_in xs x ≡ false → IsDistinct nat_eq xs → ((p : ℕ) → is_in xs p ≡ true → p < n) → length xs < n
unfolding IsDistinct
room_for n x xs inside new distinct below =
    let covered : (q : ℕ) → is_in (x ∷ xs) q ≡ true → is_in (range_with_len 0 n) q ≡ true = λ q e. below_in n q (under q (nat_eq q x) refl e) in
    let h : length (x ∷ xs) ≤ length (range_with_len 0 n) = length-le_from_is_member nat_eq_equiv (x ∷ xs) (range_with_len 0 n)
    (absent x xs new, distinct) covered in
    omega (arith, length-range_with_len 0 n) where
      under : (q : ℕ) (b : Bool) → nat_eq q x ≡ b → (b || is_in xs q) ≡ true → q < n
      under q true e h = rw (nat_eq_true q x e) inside
      under q false e h = below q h

-- one page more at the front of those that are first
pub put_first-more : (x : ℕ) (xs order : List ℕ) → is_in xs x ≡ false → put_first (x ∷ xs) order ≡ x ∷ filter (λ y. not (nat_eq x y)) (put_first xs order)
unfolding put_first
put_first-more x xs order new = ap (λ (l : List ℕ). x ∷ l) (sym (
    filter-append (λ y. not (nat_eq x y)) xs (filter (λ p. not (is_in xs p)) order)
    ∙ ap (λ (l : List ℕ). l ++ filter (λ y. not (nat_eq x y)) (filter (λ p. not (is_in xs p)) order)) (filter_absent x xs new)
    ∙ ap (λ (l : List ℕ). xs ++ l) (filter_twice (λ y. not (nat_eq x y)) (λ p. not (is_in xs p)) order
    ∙ filter_same _ _ order (λ y. neither x y (is_in xs y)))))

pub put_first-none : (order : List ℕ) → put_first [] order ≡ order
unfolding put_first
put_first-none order = filter_all (λ (p : ℕ). true) order (all_true order)

pub by_recursion-reverse : {X : Type 0} (P : X → Type 0) (xs : List X) → AllByRecursion P xs → AllByRecursion P (reverse xs)
by_recursion-reverse P xs h = recursion_from_All P (reverse xs) (All-permutation P xs (reverse xs) (IsPermutation-reverse xs) (All-from_recursion P xs h))

either : (b c : Bool) → (b || (c && not b)) ≡ (b || c)
either true true = refl
either true false = refl
either false true = refl
either false false = refl

-- what is in a list and in those that are new to it
pub is_in-more : (xs ys : List ℕ) (p : ℕ) → is_in (xs ++ filter (λ q. not (is_in xs q)) ys) p ≡ (is_in xs p || is_in ys p)
is_in-more xs ys p = rw (is_in-append xs (filter (λ q. not (is_in xs q)) ys) p, is_in-filter (λ q. not (is_in xs q)) ys p) (either (is_in xs p) (is_in ys p))

pub and_false : (b : Bool) → (b && false) ≡ false
and_false true = refl
and_false false = refl

by_recursion-append : {X : Type 0} (P : X → Type 0) (xs ys : List X) → AllByRecursion P xs → AllByRecursion P ys → AllByRecursion P (xs ++ ys)
by_recursion-append P [] ys h k = k
by_recursion-append P (x ∷ xs) ys h k = (h.0, by_recursion-append P xs ys h.1 k)

-- two lists without repeats of which none has an element of the other
pub distinct-append : (xs ys : List ℕ) → IsDistinct nat_eq xs → IsDistinct nat_eq ys
    → ((p : ℕ) → is_in xs p ≡ true → is_in ys p ≡ false) → IsDistinct nat_eq (xs ++ ys)
unfolding IsDistinct
distinct-append [] ys h k apart = k
distinct-append (x ∷ xs) ys h k apart =
    let here : is_in ys x ≡ false = apart x (here_or (nat_eq x x) (is_in xs x) (same x)) in (
      by_recursion-append (λ y. nat_eq x y ≡ false) xs ys h.0 (absent x ys here),
      distinct-append xs ys h.1 k (λ p e. apart p (there_or (nat_eq p x) (is_in xs p) e)),
    ) where
      same : (x : ℕ) → nat_eq x x ≡ true
      same x = grind (arith, nat_tests)

      here_or : (b c : Bool) → b ≡ true → (b || c) ≡ true
      here_or true c h = refl
      here_or false c h = absurd (false≢true h)

      there_or : (b c : Bool) → c ≡ true → (b || c) ≡ true
      there_or true c h = refl
      there_or false c h = h

pub put_once : (xs order : List ℕ) → IsDistinct nat_eq xs → IsDistinct nat_eq order → IsDistinct nat_eq (put_first xs order)
unfolding put_first
put_once xs order h k = distinct-append xs (filter (λ p. not (is_in xs p)) order) h (distinct-filter (λ p. not (is_in xs p)) order k)
    (λ p e. is_in-filter (λ q. not (is_in xs q)) order p ∙ ap (λ (b : Bool). is_in order p && not b) e ∙ and_false (is_in order p))

pub distinct-cons : (x : ℕ) (xs : List ℕ) → is_in xs x ≡ false → IsDistinct nat_eq xs → IsDistinct nat_eq (x ∷ xs)
unfolding IsDistinct
distinct-cons x xs new h = (absent x xs new, h)

pub by_recursion-each_once : (P : ℕ → Type 0) (xs : List ℕ) → AllByRecursion P xs → AllByRecursion P (each_once xs)
by_recursion-each_once P [] h = tt
by_recursion-each_once P (x ∷ xs) h = (h.0, by_recursion-filter P (λ y. not (nat_eq x y)) (each_once xs) (by_recursion-each_once P xs h.1))

range_apart : (b a n : ℕ) → b < a → AllByRecursion (λ y. nat_eq b y ≡ false) (range_with_len a n)
range_apart b a zero h = tt
range_apart b a (suc n) h = (differ b a h, range_apart b (a + 1) n (omega arith)) where
  differ : (b a : ℕ) → b < a → nat_eq b a ≡ false
  differ b a h = grind (arith, nat_tests)

pub range_once : (a n : ℕ) → IsDistinct nat_eq (range_with_len a n)
unfolding IsDistinct
range_once a zero = tt
range_once a (suc n) = (range_apart a (a + 1) n (omega arith), range_once (a + 1) n)

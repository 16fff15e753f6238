-- Lists of pages, each page once.
use Rattle.std.proofs.Common.{◌≡◌, ℕ, Bool, true, false, not, cond, ◌&&◌, ◌||◌, nat_eq, List, [], ◌∷◌, ◌++◌, refl, sym, ap, ◌∙◌, arith}
use Rattle.std.specs.List.{filter, AllByRecursion}
use Rattle.std.specs.Cmp.{nat_eq_equiv}
use Rattle.std.proofs.lemmas.Bool.Decides.{nat_tests}
use Rattle.std.proofs.lemmas.List.Elements.{filter-append}
use Rattle.std.proofs.lemmas.Map.Made.{is_member-filter}
use Rattle.vt_plan.specs.PageLists.{is_in, each_once}

pub nat_eq_true : (x y : ℕ) → nat_eq x y ≡ true → x ≡ y
nat_eq_true x y e = grind (arith, nat_tests)

pub filter_twice : {X : Type 0} (p q : X → Bool) (xs : List X) → filter p (filter q xs) ≡ filter (λ x. q x && p x) xs
filter_twice p q [] = refl
filter_twice p q (x ∷ xs) = step (filter_twice p q xs) (q x) (p x) refl where
  step : filter p (filter q xs) ≡ filter (λ x. q x && p x) xs → (b c : Bool) → p x ≡ c
      → filter p (cond b (x ∷ filter q xs) (filter q xs)) ≡ cond (b && c) (x ∷ filter (λ x. q x && p x) xs) (filter (λ x. q x && p x) xs)
  step same true true e = rw (e, same) refl
  step same true false e = rw (e, same) refl
  step same false c e = same

pub filter_same : {X : Type 0} (p q : X → Bool) (xs : List X) → ((x : X) → p x ≡ q x) → filter p xs ≡ filter q xs
filter_same p q [] h = refl
filter_same p q (x ∷ xs) h = rw (h x, filter_same p q xs h) refl

pub is_in-filter : (t : ℕ → Bool) (xs : List ℕ) (p : ℕ) → is_in (filter t xs) p ≡ (is_in xs p && t p)
is_in-filter t xs p = is_member-filter nat_eq_equiv t p (λ x e. ap t (nat_eq_true p x e)) xs

found_or : (x p : ℕ) (b : Bool) → (nat_eq p x || (b && not (nat_eq x p))) ≡ (nat_eq p x || b)
found_or x p b = grind (arith, nat_tests)

pub is_in-each_once : (xs : List ℕ) (p : ℕ) → is_in (each_once xs) p ≡ is_in xs p
is_in-each_once [] p = refl
is_in-each_once (x ∷ xs) p = rw (is_in-filter (λ y. not (nat_eq x y)) (each_once xs) p, is_in-each_once xs p) (found_or x p (is_in xs p))

pub neither : (x y : ℕ) (b : Bool) → (not b && not (nat_eq x y)) ≡ not (nat_eq y x || b)
neither x y b = grind (arith, nat_tests)

-- a test that all elements pass keeps them all
pub filter_all : {X : Type 0} (p : X → Bool) (xs : List X) → AllByRecursion (λ x. p x ≡ true) xs → filter p xs ≡ xs
filter_all p [] h = refl
filter_all p (x ∷ xs) h = rw (h.0, filter_all p xs h.1) refl

pub all_true : {X : Type 0} (xs : List X) → AllByRecursion (λ (x : X). true ≡ true) xs
all_true [] = tt
all_true (x ∷ xs) = (refl, all_true xs)

pub each_once-append : (xs ys : List ℕ) → each_once (xs ++ ys) ≡ each_once xs ++ filter (λ p. not (is_in xs p)) (each_once ys)
each_once-append [] ys = sym (filter_all (λ (p : ℕ). true) (each_once ys) (all_true (each_once ys)))
each_once-append (x ∷ xs) ys =
    ap (λ (l : List ℕ). x ∷ l) (
    ap (filter (λ y. not (nat_eq x y))) (each_once-append xs ys)
    ∙ filter-append (λ y. not (nat_eq x y)) (each_once xs) (filter (λ p. not (is_in xs p)) (each_once ys))
    ∙ ap (λ (l : List ℕ). filter (λ y. not (nat_eq x y)) (each_once xs) ++ l)
    (filter_twice (λ y. not (nat_eq x y)) (λ p. not (is_in xs p)) (each_once ys) ∙ filter_same _ _ (each_once ys) (λ y. neither x y (is_in xs y))))

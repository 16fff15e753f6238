-- What is at the places of lists.
use Rattle.std.proofs.Common.{◌≡◌, ◌≢◌, ℕ, zero, suc, ◌+◌, ◌<◌, ◌≤◌, inl, inr, ◌⊎◌, List, [], ◌∷◌, ◌++◌, length, map, set, take, Some, refl, sym, ap, ◌∙◌, subst, arith}
use Rattle.std.specs.Prelude.{slice_get, Contains}
use Rattle.std.specs.List.{concat}
use Rattle.std.proofs.lemmas.Bool.{cases_eq}
use Rattle.std.proofs.lemmas.List.Elements.{Contains-append_cases}
use Rattle.std.proofs.lemmas.Option.{none-some, same_Some}

pub set_same : {X : Type 0} (xs : List X) (i : ℕ) (y : X) → i < length xs → slice_get (set xs i y) i ≡ Some y
set_same [] i y inside = absurd (omega (arith, inside))
set_same (x ∷ xs) zero y inside = refl
set_same (x ∷ xs) (suc i) y inside = set_same xs i y (omega (arith, inside))

pub set_other : {X : Type 0} (xs : List X) (i k : ℕ) (y : X) → k ≢ i → slice_get (set xs i y) k ≡ slice_get xs k
set_other [] i k y other = refl
set_other (x ∷ xs) zero zero y other = absurd (other refl)
set_other (x ∷ xs) zero (suc k) y other = refl
set_other (x ∷ xs) (suc i) zero y other = refl
set_other (x ∷ xs) (suc i) (suc k) y other = set_other xs i k y (λ same. other (ap suc same))

-- what is at a place once another element was put at i
pub at_set : {X : Type 0} (xs : List X) (i k : ℕ) (y z : X) → i < length xs → slice_get (set xs i y) k ≡ Some z
    → ((k ≡ i) × (y ≡ z)) ⊎ ((k ≢ i) × (slice_get xs k ≡ Some z))
at_set xs i k y z inside is = by_case (cases_eq k i) where
  by_case : (k ≡ i) ⊎ (k ≡ i → ⊥) → ((k ≡ i) × (y ≡ z)) ⊎ ((k ≢ i) × (slice_get xs k ≡ Some z))
  by_case (inl same) = inl (same, same_Some y z (sym (set_same xs i y inside) ∙ ap (λ n. slice_get (set xs i y) n) (sym same) ∙ is))
  by_case (inr other) = inr (other, sym (set_other xs i k y other) ∙ is)

pub map_take_more : {X Y : Type 0} (f : X → Y) (xs : List X) (i : ℕ) (x : X) → slice_get xs i ≡ Some x
    → map f (take (i + 1) xs) ≡ map f (take i xs) ++ f x ∷ []
map_take_more {X} {Y} f xs i x is = (let e : i + 1 ≡ suc i = omega arith in ap (λ (n : ℕ). map f (take n xs)) e) ∙ more xs i is where
  more : (l : List X) (n : ℕ) → slice_get l n ≡ Some x → map f (take (suc n) l) ≡ map f (take n l) ++ f x ∷ []
  more [] n at = absurd (none-some x at)
  more (z ∷ l) zero at = ap (λ w. f w ∷ []) (same_Some z x at)
  more (z ∷ l) (suc n) at = ap (λ w. f z ∷ w) (more l n at)

pub take_set_same : {X : Type 0} (xs : List X) (i : ℕ) (y : X) → take i (set xs i y) ≡ take i xs
take_set_same [] i y = refl
take_set_same (x ∷ xs) zero y = refl
take_set_same (x ∷ xs) (suc i) y = ap (λ l. x ∷ l) (take_set_same xs i y)

module _ {X Y : Type 0} (f : X → Y) where
  -- what is at a place of what a function makes of a list
  pub made_of : (xs : List X) (n : ℕ) (y : Y) → slice_get (map f xs) n ≡ Some y → (x : X) × (slice_get xs n ≡ Some x) × (f x ≡ y)
  made_of [] n y is = absurd (none-some y is)
  made_of (x ∷ xs) zero y is = (x, refl, same_Some (f x) y is)
  made_of (x ∷ xs) (suc n) y is = made_of xs n y is

  pub made_at : (xs : List X) (n : ℕ) (x : X) → slice_get xs n ≡ Some x → slice_get (map f xs) n ≡ Some (f x)
  made_at [] n x is = absurd (none-some x is)
  made_at (x ∷ xs) zero z is = ap (λ w. Some (f w)) (same_Some x z is)
  made_at (x ∷ xs) (suc n) z is = made_at xs n z is

  -- an element of what it makes is made of an element
  pub contained_of : (xs : List X) (y : Y) → Contains (map f xs) y → (x : X) × Contains xs x × (f x ≡ y)
  contained_of [] y (k, inside, is) = absurd (omega (arith, inside))
  contained_of (x ∷ xs) y (zero, inside, is) = (x, (0, omega arith, refl), is)
  contained_of (x ∷ xs) y (suc k, inside, is) =
      let rest = contained_of xs y (k, omega (arith, inside), is) in
      (rest.0, (suc rest.1.0, omega (arith, rest.1.1), rest.1.2), rest.2)

  pub contained_at : (xs : List X) (x : X) → Contains xs x → Contains (map f xs) (f x)
  contained_at [] x (k, inside, is) = absurd (omega (arith, inside))
  contained_at (z ∷ xs) x (zero, inside, is) = (0, omega arith, ap f is)
  contained_at (z ∷ xs) x (suc k, inside, is) =
      let rest = contained_at xs x (k, omega (arith, inside), is) in (suc rest.0, omega (arith, rest.1), rest.2)

-- a number in joined lists is in one of them
either_list : (xs : List ℕ) (xss : List (List ℕ)) (y : ℕ) → (Contains xs y ⊎ Contains (concat xss) y)
    → (Contains (concat xss) y → (k : ℕ) × (ys : List ℕ) × (slice_get xss k ≡ Some ys) × Contains ys y)
    → (k : ℕ) × (ys : List ℕ) × (slice_get (xs ∷ xss) k ≡ Some ys) × Contains ys y
either_list xs xss y (inl here) later = (0, xs, refl, here)
either_list xs xss y (inr there) later = let rest = later there in (suc rest.0, rest.1, rest.2, rest.3)

pub joined_of : (xss : List (List ℕ)) (y : ℕ) → Contains (concat xss) y → (k : ℕ) × (xs : List ℕ) × (slice_get xss k ≡ Some xs) × Contains xs y
joined_of [] y (k, inside, is) = absurd (omega (arith, inside))
joined_of (xs ∷ xss) y has = either_list xs xss y (Contains-append_cases xs (concat xss) y has) (λ there. joined_of xss y there)

-- one element after another is put in the place of another
module _ {X : Type 0} (xs ys : List X) (i : ℕ) (a b : X) (inside : i < length ys) where
  pub one_more : (P : ℕ → X → Type 0) → P i b → ((k : ℕ) (v : X) → k < i → slice_get ys k ≡ Some v → P k v)
      → (k : ℕ) (v : X) → k < i + 1 → slice_get (set ys i b) k ≡ Some v → P k v
  one_more P now before k v low is = by_case (at_set ys i k b v inside is) where
    by_case : ((k ≡ i) × (b ≡ v)) ⊎ ((k ≢ i) × (slice_get ys k ≡ Some v)) → P k v
    by_case (inl e) = subst (λ (z : ℕ × X). P z.0 z.1) (λ j. (sym e.0 j, e.1 j)) now
    by_case (inr e) = before k v (let o = e.0 in omega (arith, low, o)) e.1

  pub each_more : (P : ℕ → X → X → Type 0) → slice_get xs i ≡ Some a → P i a b
      → ((k : ℕ) (u v : X) → k < i → slice_get xs k ≡ Some u → slice_get ys k ≡ Some v → P k u v)
      → (k : ℕ) (u v : X) → k < i + 1 → slice_get xs k ≡ Some u → slice_get (set ys i b) k ≡ Some v → P k u v
  each_more P was now before k u v low there is = by_case (at_set ys i k b v inside is) where
    by_case : ((k ≡ i) × (b ≡ v)) ⊎ ((k ≢ i) × (slice_get ys k ≡ Some v)) → P k u v
    by_case (inl e) =
        let same : a ≡ u = same_Some a u (sym was ∙ ap (slice_get xs) (sym e.0) ∙ there) in
        subst (λ (z : ℕ × X × X). P z.0 z.1 z.2) (λ j. (sym e.0 j, same j, e.1 j)) now
    by_case (inr e) = before k u v (let o = e.0 in omega (arith, low, o)) there e.1

  pub rest_same : ((k : ℕ) → i ≤ k → slice_get ys k ≡ slice_get xs k) → (k : ℕ) → i + 1 ≤ k → slice_get (set ys i b) k ≡ slice_get xs k
  rest_same out k low = set_other ys i k b (λ same. omega (arith, low, same)) ∙ out k (omega (arith, low))

-- one element more at the end of a list
pub pushed_at : {X : Type 0} (P : ℕ → X → Type 0) (xs : List X) (x : X) → ((k : ℕ) (v : X) → slice_get xs k ≡ Some v → P k v) → P (length xs) x
    → (k : ℕ) (v : X) → slice_get (xs ++ x ∷ []) k ≡ Some v → P k v
pushed_at P [] x were now zero v is = subst (P 0) (same_Some x v is) now
pushed_at P [] x were now (suc k) v is = absurd (none-some v is)
pushed_at P (y ∷ xs) x were now zero v is = were 0 v is
pushed_at {X} P (y ∷ xs) x were now (suc k) v is = pushed_at (λ (n : ℕ) (z : X). P (suc n) z) xs x (λ n z at. were (suc n) z at) now k v is

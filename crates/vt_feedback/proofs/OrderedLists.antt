-- Two lists in one strict order that have the same elements are one list.
use Rattle.std.proofs.Common.{◌≡◌, zero, suc, ◌⊎◌, inl, inr, List, [], ◌∷◌, Contains, refl, sym, ap, subst, ◌∙◌, arith}
use Rattle.std.specs.List.{AllPairs}

module _ {X : Type 0} (R : X → X → Type 0) (one_way : (x y : X) → R x y → R y x → ⊥) where
  pairs-tail : (x : X) (xs : List X) → AllPairs R (x ∷ xs) → AllPairs R xs
  pairs-tail x xs h i j d below inside = h (suc i) (suc j) d (omega arith) (omega arith)

  head_before : (x : X) (xs : List X) → AllPairs R (x ∷ xs) → (y : X) → Contains xs y → R x y
  head_before x xs h y there = subst (R x) there.2 (h 0 (suc there.0) y (omega arith) (omega (arith, there.1)))

  head_or_tail : (x : X) (xs : List X) (y : X) → Contains (x ∷ xs) y → (x ≡ y) ⊎ Contains xs y
  head_or_tail x xs y (zero, inside, is) = inl is
  head_or_tail x xs y (suc k, inside, is) = inr (k, omega arith, is)

  has_head : (x : X) (xs : List X) → Contains (x ∷ xs) x
  has_head x xs = (0, omega arith, refl)

  has_tail : (x : X) (xs : List X) (y : X) → Contains xs y → Contains (x ∷ xs) y
  has_tail x xs y there = (suc there.0, omega (arith, there.1), there.2)

  -- an element of the tail is not the head, which is before it
  in_tail : (x : X) (xs ys : List X) → AllPairs R (x ∷ xs) → ((y : X) → Contains (x ∷ xs) y → Contains (x ∷ ys) y) → (y : X) → Contains xs y → Contains ys y
  in_tail x xs ys h covers y there = elim (head_or_tail x ys y (covers y (has_tail x xs y there))) [
    | inl same ↦ let before : R x y = head_before x xs h y there in absurd (one_way x x (subst (R x) (sym same) before) (subst (R x) (sym same) before))
    | inr inside ↦ inside
  ]

  same_head : (x y : X) (xs ys : List X) → AllPairs R (x ∷ xs) → AllPairs R (y ∷ ys) → Contains (y ∷ ys) x → Contains (x ∷ xs) y → y ≡ x
  same_head x y xs ys hx hy there back = elim (head_or_tail y ys x there) [
    | inl same ↦ same
    | inr below ↦ elim (head_or_tail x xs y back) [
      | inl same ↦ sym same
      | inr above ↦ absurd (one_way x y (head_before x xs hx y above) (head_before y ys hy x below))
    ]
  ]

  pub ordered_are_one : (xs ys : List X) → AllPairs R xs → AllPairs R ys → ((z : X) → Contains xs z → Contains ys z)
      → ((z : X) → Contains ys z → Contains xs z) → xs ≡ ys
  ordered_are_one [] [] hx hy there back = refl
  ordered_are_one [] (y ∷ ys) hx hy there back = absurd (let h = back y (has_head y ys) in omega (arith, h.1))
  ordered_are_one (x ∷ xs) [] hx hy there back = absurd (let h = there x (has_head x xs) in omega (arith, h.1))
  ordered_are_one (x ∷ xs) (y ∷ ys) hx hy there back =
      let same : y ≡ x = same_head x y xs ys hx hy (there x (has_head x xs)) (back y (has_head y ys)) in
      let hy' : AllPairs R (x ∷ ys) = subst (λ (z : X). AllPairs R (z ∷ ys)) same hy in
      let there' : (z : X) → Contains (x ∷ xs) z → Contains (x ∷ ys) z = λ z c. subst (λ (w : X). Contains (w ∷ ys) z) same (there z c) in
      let back' : (z : X) → Contains (x ∷ ys) z → Contains (x ∷ xs) z = λ z c. back z (subst (λ (w : X). Contains (w ∷ ys) z) (sym same) c) in
      let tails : xs ≡ ys = ordered_are_one xs ys (pairs-tail x xs hx) (pairs-tail x ys hy') (in_tail x xs ys hx there') (in_tail x ys xs hy' back') in
      ap (λ (l : List X). x ∷ l) tails ∙ ap (λ (z : X). z ∷ ys) (sym same)

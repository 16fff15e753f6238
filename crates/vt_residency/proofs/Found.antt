-- Elements that a test finds.
use Rattle.std.proofs.Common.{◌≡◌, ℕ, suc, ◌<◌, ◌||◌, Bool, true, false, nat_eq, List, [], ◌∷◌, length, slice_index, refl, sym, arith}
use Rattle.std.specs.Prelude.{Contains}
use Rattle.std.specs.List.{list_any}
use Rattle.std.proofs.lemmas.Bool.{false≢true}
use Rattle.vt_evict.specs.PageLists.{is_in}
use Rattle.vt_evict.proofs.PlanListLemmas.{nat_eq_true}

-- a page that is in a list is at a place of it
pub in_found : (xs : List ℕ) (p : ℕ) → is_in xs p ≡ true → (k : ℕ) × (k < length xs) × (slice_index xs k ≡ p)
in_found [] p e = absurd (false≢true e)
in_found (x ∷ xs) p e = step (nat_eq p x) refl e (in_found xs p) where
  step : (b : Bool) → nat_eq p x ≡ b → (b || is_in xs p) ≡ true → (is_in xs p ≡ true → (k : ℕ) × (k < length xs) × (slice_index xs k ≡ p))
      → (k : ℕ) × (k < length (x ∷ xs)) × (slice_index (x ∷ xs) k ≡ p)
  step true same e rest = (0, omega arith, sym (nat_eq_true p x same))
  step false other e rest = let f = rest e in (suc f.0, omega (arith, f.1), f.2)

-- an element that passes a test, where the test finds one
pub any_found : {X : Type 0} (t : X → Bool) (xs : List X) → list_any t xs ≡ true → (x : X) × Contains xs x × (t x ≡ true)
any_found {X = X} t [] e = absurd (false≢true e)
any_found {X = X} t (x ∷ xs) e = step (t x) refl e (any_found t xs) where
  step : (b : Bool) → t x ≡ b → (b || list_any t xs) ≡ true → (list_any t xs ≡ true → (y : X) × Contains xs y × (t y ≡ true))
      → (y : X) × Contains (x ∷ xs) y × (t y ≡ true)
  step true same e rest = (x, (0, omega arith, refl), same)
  step false other e rest = let f = rest e in (f.0, (suc f.1.0, omega (arith, f.1.1), f.1.2), f.2)

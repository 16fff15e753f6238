-- Lists, element by element.
use Rattle.std.proofs.Common.{◌≡◌, ℕ, zero, suc, List, [], ◌∷◌, length, map, Some, refl, sym, ap, arith}
use Rattle.std.specs.Prelude.{slice_get}
use Rattle.std.proofs.lemmas.Option.{none-some, same_Some}

pub same_lists : {X : Type 0} (xs ys : List X) → length xs ≡ length ys → ((k : ℕ) (x : X) → slice_get xs k ≡ Some x → slice_get ys k ≡ Some x) → xs ≡ ys
same_lists [] [] number each = refl
same_lists [] (y ∷ ys) number each = absurd (omega (arith, number))
same_lists (x ∷ xs) [] number each = absurd (omega (arith, number))
same_lists (x ∷ xs) (y ∷ ys) number each =
    let head : y ≡ x = same_Some y x (each 0 x refl) in
    let tail = same_lists xs ys (omega (arith, number)) (λ k z is. each (suc k) z is) in
    λ i. sym head i ∷ tail i

pub made_at : {X Y : Type 0} (f : X → Y) (xs : List X) (n : ℕ) (x : X) → slice_get xs n ≡ Some x → slice_get (map f xs) n ≡ Some (f x)
made_at f [] n x is = absurd (none-some x is)
made_at f (x ∷ xs) zero z is = ap (λ w. Some (f w)) (same_Some x z is)
made_at f (x ∷ xs) (suc n) z is = made_at f xs n z is

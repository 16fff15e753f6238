-- When two lists are the same.
use Rattle.std.proofs.Common.{◌≡◌, ℕ, suc, ◌<◌, List, [], ◌∷◌, length, slice_get, Some, None, refl, arith}

-- two lists are the same where the first has each element of the second at its place, and none at the place behind them
pub same_lists : {X : Type 0} (xs ys : List X) → ((k : ℕ) → k < length ys → slice_get xs k ≡ slice_get ys k) → slice_get xs (length ys) ≡ None → xs ≡ ys
same_lists [] [] each past = refl
same_lists (x ∷ xs) [] each past = absurd (cc past)
same_lists [] (y ∷ ys) each past = absurd (cc (each 0 (omega arith)))
same_lists (x ∷ xs) (y ∷ ys) each past =
    let head : Some x ≡ Some y = each 0 (omega arith) in
    let tail : xs ≡ ys = same_lists xs ys (λ k below. each (suc k) (omega arith)) past in
    (cc)

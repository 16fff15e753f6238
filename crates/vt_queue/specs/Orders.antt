-- The one order of a queue.
use Rattle.std.specs.Prelude.{ℕ, ◌+◌, List, [], ◌∷◌, ◌++◌, map, IsPermutation}

-- The items with their places, from n on.
abbrev pub placed : {I : Type 0} → ℕ → List I → List (ℕ × I)
placed n [] = []
placed n (x ∷ xs) = (n, x) ∷ placed (n + 1) xs

-- The items without their places.
abbrev pub items_of : {I : Type 0} → List (ℕ × I) → List I
items_of entries = map (λ entry. entry.1) entries

-- What a list of things have, one after the other.
abbrev pub gathered : {X Y : Type 0} → (X → List Y) → List X → List Y
gathered f [] = []
gathered f (x ∷ xs) = f x ++ gathered f xs

-- First in, first out: what was put is one order, each item as often; what was taken is its front, and what is left the rest.
pub record IsFirstInFirstOut {I : Type 0} (put took : List (ℕ × I)) (left : List I) : Type 0 where
  pub gone : List I
  pub puts : IsPermutation (placed 0 (gone ++ left)) put
  pub takes : IsPermutation (placed 0 gone) took

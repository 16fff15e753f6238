-- Lists of pages without repeats.
use Rattle.std.specs.Prelude.{ℕ, nat_eq, Bool, not, if◌then◌else◌, List, [], ◌∷◌, ◌++◌}
use Rattle.std.specs.List.{filter, list_any}

-- whether a page is in a list
abbrev pub is_in : List ℕ → ℕ → Bool
is_in xs p = list_any (nat_eq p) xs

-- the pages of a list, each once, at its first place
abbrev pub each_once : List ℕ → List ℕ
each_once [] = []
each_once (x ∷ xs) = x ∷ filter (λ y. not (nat_eq x y)) (each_once xs)

-- a list with a page at its end, unless it has it
abbrev pub with_page : List ℕ → ℕ → List ℕ
with_page xs p = if is_in xs p then xs else xs ++ p ∷ []

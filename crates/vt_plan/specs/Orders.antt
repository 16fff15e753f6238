-- Orders of pages, and the pages of lines.
use Rattle.std.specs.Prelude.{ℕ, nat_eq, Bool, true, false, not, List, ◌∷◌, ◌++◌, reverse}
use Rattle.std.specs.List.{filter, flat_map}
use Rattle.vt_feedback.specs.Shape.{Shape}
use Rattle.vt_feedback.specs.Pages.{ancestors_of}
use Rattle.vt_plan.specs.PageLists.{is_in, each_once}

-- some pages first, and then the others of a list in their order
unfoldable pub put_first : List ℕ → List ℕ → List ℕ
put_first firsts order = firsts ++ filter (λ p. not (is_in firsts p)) order

-- the pages that are in the lines of some pages, each once: line after line, each from its coarsest page on
unfoldable pub line_pages : Shape → List ℕ → List ℕ
line_pages s pages = each_once (flat_map (λ p. reverse (ancestors_of s p)) pages)

-- a page at the front of an order that has it, or the order as it is
abbrev pub promoted_if : Bool → ℕ → List ℕ → List ℕ
promoted_if true page order = page ∷ filter (λ y. not (nat_eq page y)) order
promoted_if false page order = order

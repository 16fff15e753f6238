-- The ranks by which wanted pages are sorted.
use Rattle.std.specs.Prelude.{ℕ, ◌-◌, ◌^◌, nat_lt, List, map, slice_index}
use Rattle.std.specs.List.{filter, range_with_len}
use Rattle.vt_pages.specs.Shape.{Shape}
use Rattle.vt_pages.specs.Pages.{level_of, levels_of}
use Rattle.vt_feedback.specs.declared.Wanted.{Wanted}
use Rattle.vt_feedback.specs.declared.ranks.Rank.{Rank}

-- the most pixels that a count can have
abbrev pub most_pixels : ℕ
most_pixels = 2 ^ 32 - 1

-- the rank of a page that so many pixels want
abbrev pub rank_of : Shape → List ℕ → ℕ → Rank
rank_of s counts p = record { fineness = levels_of s - 1 - level_of s p; rarity = most_pixels - slice_index counts p; page = p }

-- the ranks of the wanted ones of the first n pages, by rising index
unfoldable pub ranks_below : Shape → List ℕ → ℕ → List Rank
ranks_below s counts n = filter (λ r. nat_lt 0 (slice_index counts r.page)) (map (rank_of s counts) (range_with_len 0 n))

-- the wanted page of a rank
abbrev pub wanted_by : Rank → Wanted
wanted_by rank = record { page = rank.page; pixels = most_pixels - rank.rarity }

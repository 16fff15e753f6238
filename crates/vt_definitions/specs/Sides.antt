-- The sides of a mip chain's levels, each half of the one before with a half texel as a whole one, and how many levels it has.
use Rattle.std.specs.Prelude.{ℕ, zero, suc, ◌+◌, ◌-◌, ◌/◌, ◌≤◌, Bool, true, false, nat_le, ◌&&◌}

-- the side of a level: the texture's, halved once a level, a half texel counting as a whole one
abbrev pub side : ℕ → ℕ → ℕ
side w zero = w
side w (suc k) = (side w k + 1) / 2

-- a level fits t: neither of its sides is above it
abbrev pub fits_tile : ℕ → ℕ → ℕ → ℕ → Bool
fits_tile w h t k = nat_le (side w k) t && nat_le (side h k) t

-- the first level from k on that fits t, or the one that lies so many levels behind k where none before it does
abbrev pub first_fit : ℕ → ℕ → ℕ → ℕ → ℕ → ℕ
first_fit zero w h t k = k
first_fit (suc rest) w h t k = elim (fits_tile w h t k) [ true ↦ k | false ↦ first_fit rest w h t (k + 1) ]

-- the number of levels: one more than the number of the first level that fits t
unfoldable pub level_count : ℕ → ℕ → ℕ → ℕ
level_count w h t = first_fit (w + h) w h t 0 + 1

-- n is the least number of levels, at least one, for which both sides of the last are at most t
pub record IsLevelCount (w h t n : ℕ) : Type 0 where
  pub some : 1 ≤ n
  pub last_width : side w (n - 1) ≤ t
  pub last_height : side h (n - 1) ≤ t
  pub least : (k : ℕ) → side w k ≤ t → side h k ≤ t → n ≤ k + 1

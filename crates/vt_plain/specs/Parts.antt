-- The rows of a picture, from one on to another.
use Rattle.std.specs.Prelude.{◌≡◌, ◌-◌, ◌*◌, ◌<◌, ◌≤◌, ℕ, List}
use Rattle.std.specs.List.{flat_map, range_with_len}

-- the bytes of so many rows from the top
unfoldable pub rows_until : (ℕ → List ℕ) → ℕ → List ℕ
rows_until bytes rows = flat_map bytes (range_with_len 0 rows)

-- so many bytes have room for the rows from one on to another, which can be drawn into so many bytes each
pub record IsRoomFor (fits : ℕ → ℕ → Type 0) (size first end room : ℕ) : Type 0 where
  pub rows : (y : ℕ) → y < end → fits y size
  pub order : first ≤ end
  pub full : room ≡ size * (end - first)

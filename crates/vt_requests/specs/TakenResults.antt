-- Results that are taken while loaders work.
use Rattle.std.specs.Prelude.{◌≡◌, ◌≢◌, ℕ, ◌*◌, ◌<◌, ◌≤◌, ◌&&◌, ◌||◌, Bool, true, false, not, nat_lt, nat_eq, List, length, slice_index_or, All}
use Rattle.std.specs.List.{AllPairs}
use Rattle.vt_table.specs.Shape.{Shape}
use Rattle.vt_load.specs.QueueTypes.items.Loaded.{Loaded}
use Rattle.vt_load.specs.QueueTypes.views.PassView.{PassView}
use Rattle.vt_load.specs.Orders.{items_of}
use Rattle.vt_load.specs.Streamed.{with_taken}

-- a ticket is one of so many, for which nothing was taken
abbrev pub is_new : List Bool → ℕ → ℕ → Bool
is_new taken count ticket = nat_lt ticket count && not (slice_index_or taken ticket false)

-- so many bytes are those of a tile, of samples of one byte or of two
abbrev pub is_tile_length : Shape → ℕ → Bool
is_tile_length s n = nat_eq n (3 * (s.tile * s.tile)) || nat_eq n (6 * (s.tile * s.tile))

-- a result is to be applied: nothing was taken for its ticket, and its buffer has the length of a tile, where it is said which lengths are
abbrev pub is_wanted : (ℕ → Bool) → List Bool → Loaded → Bool
is_wanted is_tile taken result = is_new taken (length taken) result.request.ticket && is_tile (length result.request.buffer.elements)

-- a pass has taken results; of these were kept: at most one for each ticket, which is marked; and all of them, if as many were kept as
-- were taken
pub record Streams (count : ℕ) (v w : PassView Loaded) (taken : List Bool) (kept : List Loaded) : Type 0 where
  pub got : List (ℕ × Loaded)
  pub is : w ≡ with_taken v got
  pub flags : length taken ≡ count
  pub marked : All (λ x. slice_index_or taken x.request.ticket false ≡ true) kept
  pub inside : All (λ x. x.request.ticket < count) kept
  pub apart : AllPairs (λ x y. x.request.ticket ≢ y.request.ticket) kept
  pub no_more : length kept ≤ length got
  pub exact : length got ≡ length kept → kept ≡ items_of got

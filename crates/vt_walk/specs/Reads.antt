-- What a walk asks of its store: the tiles of the pinned pages and of the batches, each once, and nothing else.
use Rattle.std.specs.Prelude.{◌≡◌, ℕ, ◌+◌, ◌-◌, ◌≤◌, List, Option, Some, None, sum_by, count_by}
use Rattle.std.specs.List.{range_with_len}
use Rattle.vt_outside.specs.declared.place.Place.{Place}
use Rattle.vt_outside.specs.Places.{times_asked, times_failed}
use Rattle.vt_pages.specs.Shape.{Shape}
use Rattle.vt_pages.specs.Pages.{pages_of}
use Rattle.vt_tiles.specs.Format.{tile_start, tile_length}
use Rattle.vt_evict.specs.PlanTypes.batches.Planned.{Planned}
use Rattle.vt_walk_decisions.specs.Requests.{is_tile_at, times_planned}

-- how often a place is that of a pinned page's tile; the pinned pages are the last so many (Mayer 2010)
abbrev pub times_pinned : Shape → ℕ → ℕ → ℕ → ℕ → ℕ
times_pinned s d pinned at len = count_by (is_tile_at s d at len) (range_with_len (pages_of s - pinned) pinned)

-- each place was asked as often more as it is that of a pinned page or of a planned entry, and the read failed as often as it is that
-- of a lost one
pub record AreAskedFor (s : Shape) (d pinned : ℕ) (planned lost : List Planned) (before after : List Place) : Type 0 where
  pub asked : (at len : ℕ) → times_asked at len after ≡ times_asked at len before + (times_pinned s d pinned at len + times_planned s d planned at len)
  pub failed : (at len : ℕ) → times_failed at len after ≡ times_failed at len before + times_planned s d lost at len

-- each place was asked at most as often more
abbrev pub AreAskedAtMostFor : Shape → ℕ → ℕ → List Planned → List Place → List Place → Type 0
AreAskedAtMostFor s d pinned planned before after =
    (at len : ℕ) → times_asked at len after ≤ times_asked at len before + (times_pinned s d pinned at len + times_planned s d planned at len)

-- the places are known before and after, and are so; or they are not known
abbrev pub OnKnown : (List Place → List Place → Type 0) → Option (List Place) → Option (List Place) → Type 0
OnKnown P (Some before) (Some after) = P before after
OnKnown P None None = Unit {0}
OnKnown P _ _ = ⊥

-- how many reads of unpinned pages' tiles have failed
abbrev pub lost_reads : Shape → ℕ → ℕ → List Place → ℕ
lost_reads s d pinned places = sum_by (λ p. times_failed (tile_start s d p) (tile_length s d) places) (range_with_len 0 (pages_of s - pinned))

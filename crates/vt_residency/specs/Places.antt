-- What a look-up finds: a page, its frame and its level.
use Rattle.std.specs.Prelude.{◌≡◌, ℕ, ◌+◌, Some, List, slice_index}
use Rattle.vt_pages.specs.Shape.{Shape}
use Rattle.vt_pages.specs.Pages.{level_of}
use Rattle.vt_pages.specs.Lookups.{lookup}
use Rattle.vt_evict.specs.Missing.{has_frame}
use Rattle.vt_residency.specs.declared.places.Place.{Place}

-- a place is that of a page's look-up, and its frame and level are that page's
pub record IsPlaceOf (s : Shape) (entries : List ℕ) (page : ℕ) (found : Place) : Type 0 where
  pub looked_up : lookup s (has_frame entries) page ≡ Some found.page
  pub held : slice_index entries found.page ≡ found.frame + 1
  pub level : found.level ≡ level_of s found.page

-- The rows of a sampler that are drawn so far over a still table.
use Rattle.std.specs.Prelude.{◌≡◌, ℕ, ◌+◌, ◌*◌, ◌<◌, ◌≤◌, List, length, slice_index}
use Rattle.vt_definitions.specs.Limits.{most_samplers, most_picture_side}
use Rattle.vt_definitions.specs.Dealing.{sampler_of, own_count}
use Rattle.vt_definitions.specs.Depths.{IsDepth}
use Rattle.vt_pages.specs.Shape.{Shape}
use Rattle.vt_pages.specs.Pages.{pages_of}
use Rattle.vt_lookup.specs.Paths.{PathView}
use Rattle.vt_lookup.specs.Shots.{shot_row, AreDrawn, pixels_in_rows}
use Rattle.vt_table.specs.Views.{TableView}
use Rattle.vt_sampler.specs.Notes.{IsTrueOf, TableMapsRoot}
use Rattle.vt_sampler.specs.Samplers.{own_rows, row_in, row_length}

-- the rows of so many turns are drawn over a table that maps the root, each at its newest version, and counted, into buffers for all of a sampler's rows
pub record HasDrawnStill (v : TableView) (s : Shape) (path : PathView) (picture depth sampler samplers line turns : ℕ) (bytes counts : List ℕ)
    : Type 0 where
  pub shape_is : v.shape ≡ s
  pub root : TableMapsRoot v
  pub one_of : sampler < samplers
  pub few : samplers ≤ most_samplers
  pub depth_is : IsDepth depth
  pub picture_is : picture < length path.cameras
  pub wide : path.width ≤ most_picture_side
  pub high : path.height ≤ most_picture_side
  pub line_is : line ≡ row_length depth path.width
  pub room : length bytes ≡ own_count sampler samplers path.height * row_length depth path.width
  pub pages : length counts ≡ pages_of s
  pub drawn : (y : ℕ) → y < turns * samplers + sampler → sampler_of y samplers ≡ sampler
      → AreDrawn s depth (length v.changes) (IsTrueOf v) (shot_row s path picture y) path.width (row_in samplers (row_length depth path.width) bytes y)
  pub counted : (p : ℕ) → p < length counts
      → slice_index counts p ≡ pixels_in_rows s path picture (own_rows sampler samplers (turns * samplers + sampler)) p

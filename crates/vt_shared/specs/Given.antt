-- The tiles that were given for the pages that were mapped, and the texels that readers had of them.
use Rattle.std.specs.Prelude.{◌≡◌, ℕ, ◌*◌, ◌<◌, ◌≤◌, Some, None, List, [], length, slice_get, slice_index_or}
use Rattle.vt_definitions.specs.Depths.{texel_length, texel_bytes, AreBytes}
use Rattle.vt_pages.specs.Shape.{Shape}
use Rattle.vt_pages.specs.Pages.{level_of, ancestor_of}
use Rattle.vt_journal.specs.declared.changes.Change.{Change}
use Rattle.vt_journal.specs.declared.changes.Change.TheVariants.{Map}
use Rattle.vt_journal.specs.Changes.{at}
use Rattle.vt_draw.specs.Lookups.{covering_page, covering_place}
use Rattle.vt_grace.specs.Contents.{IsPutBy}
use Rattle.vt_streamer.specs.Fills.{words_in}
use Rattle.vt_texel_runs.specs.declared.points.Point.{Point}

-- so many bytes are those of a tile of a depth
abbrev pub HasTileLength : Shape → ℕ → ℕ → Type 0
HasTileLength s d bytes = bytes ≡ texel_length d * (s.tile * s.tile)

-- a content has the texel words of a tile
pub record IsOfTile (s : Shape) (d : ℕ) (content : List ℕ) : Type 0 where
  pub tile : List ℕ
  pub size : HasTileLength s d (length tile)
  pub bytes : AreBytes tile
  pub words : content ≡ words_in s tile

-- each page was mapped with the words of a tile
abbrev pub AreOfTiles : Shape → ℕ → List Change → List (List ℕ) → Type 0
AreOfTiles s d journal contents = (k page frame : ℕ) → slice_get journal k ≡ Some (Map page frame)
    → IsOfTile s d (slice_index_or contents k [])

-- the version maps the page, which is the finest one that it maps of the line of the point's page; and the bytes are those of the texel
-- over the point in the tile that was given for that page by the last change that mapped it (van Waveren 2012)
pub record IsOfItsTile (s : Shape) (d : ℕ) (journal : List Change) (contents : List (List ℕ)) (version : ℕ) (p : Point) (bytes : List ℕ) : Type 0 where
  pub page : ℕ
  pub frame : ℕ
  pub level : ℕ
  pub known : version ≤ length journal
  pub no_finer : level_of s (covering_page s p.level p.x p.y) ≤ level
  pub page_is : page ≡ ancestor_of s (covering_page s p.level p.x p.y) level
  pub unmapped : (k : ℕ) → level_of s (covering_page s p.level p.x p.y) ≤ k → k < level
      → at journal version (ancestor_of s (covering_page s p.level p.x p.y) k) ≡ None
  pub mapped : at journal version page ≡ Some frame
  pub tile : List ℕ
  pub size : HasTileLength s d (length tile)
  pub given : IsPutBy journal contents version page frame (words_in s tile)
  pub texel : bytes ≡ texel_bytes d tile (covering_place s level p.x p.y)

-- What a picture shows: under a page table, and without one; and what a replay is.
use Rattle.std.specs.Prelude.{◌≡◌, ℕ, ◌*◌, ◌/◌, ◌^◌, ◌<◌, Some, unwrap_or, List, [], length, slice_get, slice_index_or, All}
use Rattle.std.specs.List.{concat}
use Rattle.vt_pages.specs.Depths.{texel_length, texel_bytes, word_bytes}
use Rattle.vt_draw.specs.Texels.{Source}
use Rattle.vt_journal.specs.Shape.{Shape}
use Rattle.vt_journal.specs.Pages.{level_of, root_of}
use Rattle.vt_journal.specs.PagesLookups.{lookup}
use Rattle.vt_draw.specs.Rows.{RowView, row_place, row_level}
use Rattle.vt_draw.specs.Shots.{shot_row, wanted_page}
use Rattle.vt_journal.specs.declared.changes.Change.{Change}
use Rattle.vt_journal.specs.declared.changes.RowLine.{RowLine}
use Rattle.vt_journal.specs.Changes.{Table, at}
use Rattle.vt_journal.specs.Lookups.{is_mapped}
use Rattle.vt_pictures.specs.Scenes.{Scene}

-- the row of a scene's picture
abbrev pub scene_row : Scene → ℕ → ℕ → RowView
scene_row scene i y = shot_row scene.shape scene.path i y

-- the bytes that pixel x of a row shows of a source at a level (van Waveren 2012)
abbrev pub shown_at : ℕ → Source → RowView → ℕ → ℕ → List ℕ
shown_at d src row x level = word_bytes d (src level ((row_place row x).0 / 2 ^ level) ((row_place row x).1 / 2 ^ level))

-- the page that serves a pixel: the finest that the table maps of its wanted page and its ancestors; the root where none is (van Waveren 2012)
abbrev pub serving_page : Shape → Table → RowView → ℕ → ℕ
serving_page s m row x = unwrap_or (lookup s (is_mapped m) (wanted_page s row x)) (root_of s)

-- the bytes of pixel (x, y) of a picture under a page table: the source's texel at the level of the page that serves it (van Waveren 2012)
abbrev pub pixel_under : Source → Scene → Table → ℕ → ℕ → ℕ → List ℕ
pixel_under src scene m i x y =
    let row = scene_row scene i y in
    shown_at scene.depth src row x (level_of scene.shape (serving_page scene.shape m row x))

-- the bytes of pixel (x, y) of the plain picture: the source's texel at the row's own level
abbrev pub plain_pixel : Source → Scene → ℕ → ℕ → ℕ → List ℕ
plain_pixel src scene i x y = let row = scene_row scene i y in shown_at scene.depth src row x (row_level row)

-- the pixels of a row of bytes
abbrev pub HasPixels : ℕ → ℕ → (ℕ → List ℕ) → List ℕ → Type 0
HasPixels d width pixel bytes = (x : ℕ) → x < width → texel_bytes d bytes x ≡ pixel x

-- a row has the bytes of so many pixels
abbrev pub IsFull : ℕ → ℕ → List ℕ → Type 0
IsFull d width bytes = length bytes ≡ texel_length d * width

-- the bytes of a picture are those of its rows from the top, and they show these pixels
pub record IsPictureOf (d width height : ℕ) (pixel : ℕ → ℕ → List ℕ) (bytes : List ℕ) : Type 0 where
  pub rows : List (List ℕ)
  pub count : length rows ≡ height
  pub full : All (IsFull d width) rows
  pub each : (y : ℕ) → y < height → HasPixels d width (λ x. pixel x y) (slice_index_or rows y [])
  pub joined : bytes ≡ concat rows

-- the replay of a pass: each row shows what its pixels are under the page table of the version that its line names
abbrev pub AreReplayed : ℕ → ℕ → (Table → ℕ → ℕ → List ℕ) → List Change → List RowLine → List (List ℕ) → Type 0
AreReplayed d width pixel changes lines rows = (y : ℕ) (line : RowLine) → slice_get lines y ≡ Some line
    → HasPixels d width (λ x. pixel (at changes line.version) x y) (slice_index_or rows y [])

-- the samples of a picture are the replay of a pass of these rows: so many full rows, and each is shown under the page table of the
-- version that its line names
pub record IsReplayOf (d width height : ℕ) (pixel : Table → ℕ → ℕ → List ℕ) (changes : List Change) (lines : List RowLine) (samples : List ℕ) : Type 0 where
  pub rows : List (List ℕ)
  pub count : length rows ≡ height
  pub full : All (IsFull d width) rows
  pub replayed : AreReplayed d width pixel changes lines rows
  pub joined : samples ≡ concat rows

-- What a picture by blends shows: under a page table, and without one.
use Rattle.std.specs.Prelude.{ℕ, ◌-◌, ◌/◌, ◌^◌, unwrap_or, List}
use Rattle.vt_definitions.specs.Texels.{Source}
use Rattle.vt_pages.specs.Shape.{Shape}
use Rattle.vt_pages.specs.Pages.{level_of, root_of, texel_page}
use Rattle.vt_pages.specs.Lookups.{lookup}
use Rattle.vt_camera.specs.Rows.{row_level}
use Rattle.vt_pictures.specs.Changes.{Table}
use Rattle.vt_pictures.specs.Lookups.{is_mapped}
use Rattle.vt_pictures.specs.Scenes.{Scene}
use Rattle.vt_pictures.specs.Replays.{scene_row}
use Rattle.vt_blend.specs.Blends.{blend_bytes}

-- the level of the page that serves a page under a table: the finest that it maps of the page and its ancestors; the root where none is
-- (van Waveren 2012)
abbrev pub serving_level : Shape → Table → ℕ → ℕ
serving_level s m p = level_of s (unwrap_or (lookup s (is_mapped m) p) (root_of s))

-- the word that serves the texel in a column and a row of level k under a table: the source's at the level of the page that serves its page
abbrev pub texel_under : Source → Shape → Table → ℕ → ℕ → ℕ → ℕ
texel_under src s m k x y =
    let j = serving_level s m (texel_page s k x y) in src j (x / 2 ^ (j - k)) (y / 2 ^ (j - k))

-- the bytes of pixel (x, y) of a picture under a page table: the blend of the words that serve its four texels
abbrev pub blend_under : Source → Scene → Table → ℕ → ℕ → ℕ → List ℕ
blend_under src scene m i x y =
    let row = scene_row scene i y in blend_bytes scene.depth row x (texel_under src scene.shape m (row_level row))

-- the bytes of pixel (x, y) of the plain picture: the blend of the source's texels at the row's own level
abbrev pub plain_blend : Source → Scene → ℕ → ℕ → ℕ → List ℕ
plain_blend src scene i x y = let row = scene_row scene i y in blend_bytes scene.depth row x (src (row_level row))

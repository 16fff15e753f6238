-- The plain picture: what a camera shows of a source of texels, and of a mip chain.
use Rattle.std.specs.Prelude.{ℕ, zero, suc, ◌-◌, ◌/◌, ◌^◌, List}
use Rattle.std.specs.List.{flat_map, range_with_len}
use Rattle.vt_pages.specs.Sides.{level_count}
use Rattle.vt_pages.specs.Depths.{word_bytes}
use Rattle.vt_pages.specs.Texels.{Source}
use Rattle.vt_mip.specs.Image.{ImageView, texel_of}
use Rattle.vt_mip.specs.Chains.{chain}
use Rattle.vt_camera.specs.declared.paths.Camera.{Camera}
use Rattle.vt_camera.specs.declared.surfaces.Surface.{Surface}
use Rattle.vt_camera.specs.Paths.{PathView, camera_at}
use Rattle.vt_camera.specs.Rows.{RowView, row_of, row_level, row_place}

-- the word that pixel x of a row shows: the source's texel at the row's own level (van Waveren 2012)
abbrev pub shown_word : Source → RowView → ℕ → ℕ
shown_word source row x =
    source (row_level row) ((row_place row x).0 / 2 ^ row_level row) ((row_place row x).1 / 2 ^ row_level row)

-- the bytes of the first pixels of a row of a source of depth d
unfoldable pub row_samples : ℕ → Source → RowView → ℕ → List ℕ
row_samples d source row columns = flat_map (λ x. word_bytes d (shown_word source row x)) (range_with_len 0 columns)

-- the bytes of the first rows of the picture that a camera takes of a source of depth d, from the top
unfoldable pub first_rows : ℕ → Source → Surface → PathView → Camera → ℕ → List ℕ
first_rows d source surface path camera rows =
    flat_map (λ y. row_samples d source (row_of path camera y surface) path.width) (range_with_len 0 rows)

-- the plain picture: what a picture of a path shows of a source of depth d, seen as this surface, with no pages
-- (van Waveren 2012)
abbrev pub plain_picture : ℕ → Source → Surface → PathView → ℕ → List ℕ
plain_picture d source surface path picture = first_rows d source surface path (camera_at path picture) path.height

-- a texture as a camera sees it: its sides and its number of levels
abbrev pub surface_of : ImageView → ℕ → Surface
surface_of texture tile = record {
  width = texture.width;
  height = texture.height;
  levels = level_count texture.width texture.height tile;
}

-- the mip chain of a texture, as a source of texels
abbrev pub chain_of : ImageView → Source
chain_of texture = chain texture.depth (texel_of texture) texture.width texture.height

-- the plain picture of a texture: of its mip chain, at its depth, down to the level that a tile of this side holds
unfoldable pub plain_samples : ImageView → ℕ → PathView → ℕ → List ℕ
plain_samples texture tile path picture =
    plain_picture texture.depth (chain_of texture) (surface_of texture tile) path picture

-- a source whose level 0 is the first of another one, whose levels are counted as if so many were before it
unfoldable pub levels_from : ℕ → Source → Source
levels_from zero source = source
levels_from (suc n) source = λ k. source (k - suc n)

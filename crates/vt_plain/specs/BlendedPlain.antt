-- The plain picture by blends: what a camera shows of a source of texels, and of a mip chain.
use Rattle.std.specs.Prelude.{ℕ, List}
use Rattle.std.specs.List.{flat_map, range_with_len}
use Rattle.vt_definitions.specs.Texels.{Source}
use Rattle.vt_mip.specs.Image.{ImageView}
use Rattle.vt_camera.specs.declared.paths.Camera.{Camera}
use Rattle.vt_camera.specs.declared.surfaces.Surface.{Surface}
use Rattle.vt_camera.specs.Paths.{PathView, camera_at}
use Rattle.vt_camera.specs.Rows.{RowView, row_of, row_level}
use Rattle.vt_plain.specs.Plain.{surface_of, chain_of}
use Rattle.vt_blend.specs.Blends.{blend_bytes}

-- the bytes of the first pixels of a row of a source of depth d: each is a blend of texels of the row's own level
unfoldable pub row_blends : ℕ → Source → RowView → ℕ → List ℕ
row_blends d source row columns = flat_map (λ x. blend_bytes d row x (source (row_level row))) (range_with_len 0 columns)

-- the bytes of the first rows of the picture that a camera takes of a source of depth d, from the top
unfoldable pub first_blended_rows : ℕ → Source → Surface → PathView → Camera → ℕ → List ℕ
first_blended_rows d source surface path camera rows =
    flat_map (λ y. row_blends d source (row_of path camera y surface) path.width) (range_with_len 0 rows)

-- the plain picture of a texture by blends: of its mip chain, at its depth, down to the level that a tile of this side holds
unfoldable pub plain_blends : ImageView → ℕ → PathView → ℕ → List ℕ
plain_blends texture tile path picture =
    first_blended_rows texture.depth (chain_of texture) (surface_of texture tile) path (camera_at path picture) path.height

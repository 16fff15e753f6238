-- The file of a plain picture.
use Rattle.std.specs.Prelude.{ℕ, List}
use Rattle.vt_ppm.specs.Image.{ImageView}
use Rattle.vt_ppm.specs.Picture.{picture_bytes}
use Rattle.vt_camera.specs.Paths.{PathView}
use Rattle.vt_plain.specs.Plain.{plain_samples}
use Rattle.vt_plain.specs.BlendedPlain.{plain_blends}
use Rattle.vt_command_words.specs.declared.filters.Filtering.{Filtering}
use Rattle.vt_command_words.specs.declared.filters.Filtering.TheVariants.{Nearest, Bilinear}

-- the samples of the plain picture by a filter
abbrev pub samples_by : Filtering → ImageView → ℕ → PathView → ℕ → List ℕ
samples_by Nearest = plain_samples
samples_by Bilinear = plain_blends

-- the file of the plain picture by a filter, at its depth, of a texture, a tile side, a path and the number of a picture (the Netpbm
-- manual's P6 page)
unfoldable pub plain_file : Filtering → ImageView → ℕ → PathView → ℕ → List ℕ
plain_file filter texture tile path picture =
    picture_bytes texture.depth path.width path.height (samples_by filter texture tile path picture)

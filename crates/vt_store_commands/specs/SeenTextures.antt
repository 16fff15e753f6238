-- The texture of `plain`, of which level 0 may be left out where no picture wants it.
use Rattle.std.specs.Prelude.{◌≡◌, ◌⊎◌, ℕ, ◌<◌, ◌≤◌, List, length, Option, Some, IsSome}
use Rattle.vt_definitions.specs.Sides.{side, level_count}
use Rattle.vt_ppm.specs.declared.header.Header.{Header}
use Rattle.vt_ppm.specs.Format.{depth_of}
use Rattle.vt_ppm.specs.Image.{ImageView, IsLawfulImage}
use Rattle.vt_ppm.specs.Picture.{picture_bytes}
use Rattle.vt_ppm.specs.Strips.{texture_of}
use Rattle.vt_mip.specs.Halves.{IsHalf}
use Rattle.vt_camera.specs.declared.surfaces.Surface.{Surface}
use Rattle.vt_camera.specs.Paths.{PathView, camera_at}
use Rattle.vt_camera.specs.Rows.{IsSurface, row_of, row_level}
use Rattle.vt_plain.specs.Plain.{chain_of, levels_from, plain_picture}
use Rattle.vt_plain.specs.BlendedPlain.{plain_blends}
use Rattle.vt_outside.specs.Effects.{FolderEffect}
use Rattle.vt_pictures.specs.Pictures.{expected_pictures}
use Rattle.vt_outside.specs.Expectations.{Expected}
use Rattle.vt_command_inputs.specs.Inputs.{TextureInput, TextureContent}
use Rattle.vt_command_inputs.specs.Lines.{end_line}
use Rattle.vt_command_inputs.specs.Reads.{TookInput}
use Rattle.vt_store_commands.specs.Pictures.{plain_file}
use Rattle.vt_command_words.specs.declared.filters.Filtering.{Filtering}
use Rattle.vt_command_words.specs.declared.filters.Filtering.TheVariants.{Nearest, Bilinear}
use Rattle.vt_store_commands.specs.declared.seen_textures.Seen.{Seen}

-- the whole texture as a camera sees it, down to the level that a tile of this side holds
abbrev pub seen_surface : Seen → ℕ → Surface
seen_surface s tile = record { width = s.width; height = s.height; levels = level_count s.width s.height tile }

-- the samples of a picture of what is there
abbrev pub seen_samples : Filtering → Seen → ℕ → PathView → ℕ → List ℕ
seen_samples Nearest s tile path picture = plain_picture s.image.depth (levels_from s.skipped (chain_of s.image)) (seen_surface s tile) path picture
seen_samples Bilinear s tile path picture = plain_blends s.image tile path picture

-- and its file
abbrev pub seen_file : Filtering → Seen → ℕ → PathView → ℕ → List ℕ
seen_file filter s tile path picture = picture_bytes s.image.depth path.width path.height (seen_samples filter s tile path picture)

-- the pictures of a path, and the end line
abbrev pub seen_path : List ℕ → Filtering → Seen → ℕ → PathView → Expected
seen_path prefix filter s tile path = record {
  files = expected_pictures prefix (seen_file filter s tile path) (length path.cameras);
  text = end_line (length path.cameras);
}

-- the image is the texture, or its level 1 where it has one
abbrev pub HasSides : Seen → ℕ → Type 0
HasSides s tile = ((s.skipped ≡ 0) × (s.image.width ≡ s.width) × (s.image.height ≡ s.height))
    ⊎ ((s.skipped ≡ 1) × (2 ≤ level_count s.width s.height tile) × (s.image.width ≡ side s.width 1) × (s.image.height ≡ side s.height 1))

-- no row of a path's pictures wants a level that is left out
abbrev pub SeesNone : Seen → ℕ → PathView → Type 0
SeesNone s tile path = (picture y : ℕ) → picture < length path.cameras → y < path.height
    → s.skipped ≤ row_level (row_of path (camera_at path picture) y (seen_surface s tile))

-- what is there of a texture suffices for the pictures of a path
pub record IsEnough (s : Seen) (tile : ℕ) (path : PathView) : Type 0 where
  pub limits : IsSurface (seen_surface s tile)
  pub sides : HasSides s tile
  pub none : SeesNone s tile path

-- what was read of an open texture with this header, as far as its bytes are known: all of it, or its level 1
pub record IsSeenOf (known : Option (List ℕ)) (h : Header) (tile : ℕ) (s : Seen) : Type 0 where
  pub width : s.width ≡ h.width
  pub height : s.height ≡ h.height
  pub depth : s.image.depth ≡ depth_of h.maximum
  pub sides : HasSides s tile
  pub whole : s.skipped ≡ 0 → (b : List ℕ) → known ≡ Some b → s.image ≡ texture_of h b
  pub half : s.skipped ≡ 1 → IsLawfulImage s.image × ((b : List ℕ) → known ≡ Some b → IsHalf (texture_of h b) s.image)

-- the texture of a name was read, and its pictures are those of what is there
pub record Sees (name : List ℕ) (filter : Filtering) (tile : ℕ) (path : PathView) (s : Seen) (p : FolderEffect) : Type 0 where
  pub texture : ImageView
  pub took : TookInput (TextureInput name) (TextureContent texture) p
  pub enough : IsEnough s tile path
  pub files : IsSome p.before.files → (picture : ℕ) → picture < length path.cameras
      → seen_file filter s tile path picture ≡ plain_file filter texture tile path picture

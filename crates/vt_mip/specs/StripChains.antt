-- The mip chain of a texture that is read by rows.
use Rattle.std.specs.Prelude.{◌≡◌, ℕ, zero, suc, ◌+◌, ◌-◌, ◌*◌, ◌^◌, ◌<◌, ◌≤◌, Bool, true, false, List, [], ◌∷◌, ◌++◌, map, min, Option, option_map}
use Rattle.std.specs.List.{range_with_len}
use Rattle.vt_ppm.specs.Depths.{IsDepth, texel_length, word_at}
use Rattle.vt_ppm.specs.Limits.{most_levels, most_tiled_side}
use Rattle.vt_ppm.specs.Sides.{side, level_count}
use Rattle.vt_ppm.specs.Texels.{Source}
use Rattle.vt_ppm.specs.Tiles.{IsTileSide}
use Rattle.vt_ppm.specs.OutsideTypes.place.Place.{Place}
use Rattle.vt_ppm.specs.declared.header.Header.{Header}
use Rattle.vt_ppm.specs.Format.{depth_of}
use Rattle.vt_ppm.specs.Image.{texel_of}
use Rattle.vt_ppm.specs.Strips.{texture_of, row_length, row_start, IsTextureHeader}
use Rattle.vt_mip.specs.Chains.{chain}

-- a chain that is read by rows: its file, the header of its texture, and the tile side that says where it ends
pub record StripChainView (F : Type 0) : Type 0 where
  pub file : F
  pub header : Header
  pub tile : ℕ

-- the chain of the texture that bytes spell behind a header
abbrev pub texture_texel : Header → List ℕ → Source
texture_texel h b = chain (depth_of h.maximum) (texel_of (texture_of h b)) h.width h.height

-- how many bytes a row of a level has
abbrev pub level_row_length : Header → ℕ → ℕ
level_row_length h k = texel_length (depth_of h.maximum) * side h.width k

-- how many bytes two rows of each level below one have
unfoldable pub room_length : Header → ℕ → ℕ
room_length h zero = 0
room_length h (suc k) = 2 * level_row_length h k + room_length h k

-- what a chain knows of its reader and of itself
pub record IsStripChain (h : Header) (looked_over : Bool) (tile_side levels bytes : ℕ) : Type 0 where
  pub checked : looked_over ≡ true
  pub header : IsTextureHeader h
  pub tile : IsTileSide tile_side
  pub count : levels ≡ level_count h.width h.height tile_side
  pub some : 1 ≤ levels
  pub few : levels ≤ most_levels
  pub room : room_length h (levels - 1) ≤ bytes

-- the words of a row of so many texels
pub record HasWords (d : ℕ) (word : ℕ → ℕ) (columns : ℕ) (bytes : List ℕ) : Type 0 where
  pub each : (x : ℕ) → x < columns → word_at d bytes x ≡ word x

-- the first row of the texture under a row of a level
abbrev pub first_under : ℕ → ℕ → ℕ
first_under k y = y * 2 ^ k

-- how many of a texture's rows lie under a row of a level: two for each row of the level below, as far as there are
abbrev pub rows_under : ℕ → ℕ → ℕ → ℕ
rows_under h k y = min (2 ^ k) (h - first_under k y)

-- how a row of a level has to do with the first of the two rows of the level below that it is made of
pub record IsUpper (h k level y : ℕ) : Type 0 where
  pub inside : 2 * y < side h k
  pub first : first_under k (2 * y) ≡ first_under level y
  pub fewer : rows_under h k (2 * y) ≤ rows_under h level y

-- what a row of a level that is not 0 has to do with the level below: the bytes of a sample, the sides, and the bytes of a row
pub record IsBelow (h : Header) (level y d w s n : ℕ) : Type 0 where
  pub level_is : level ≡ suc (level - 1)
  pub depth : d ≡ depth_of h.maximum
  pub is_depth : IsDepth d
  pub some_columns : 1 ≤ h.width
  pub columns : w ≡ side h.width (level - 1)
  pub rows : s ≡ side h.height (level - 1)
  pub product : n ≡ texel_length d * w
  pub size : n ≡ level_row_length h (level - 1)
  pub room : room_length h level ≡ 2 * n + room_length h (level - 1)
  pub upper : IsUpper h.height (level - 1) level y
  pub inside : 2 * y < s
  pub short : s ≤ most_tiled_side

-- the place of a row of the texture
abbrev pub texture_row_place : Header → Bool → ℕ → Place
texture_row_place h failed y = record { at = row_start h y; len = 1 * row_length h; failed = failed }

-- the places of so many rows from one on, in order
abbrev pub row_places : Header → ℕ → ℕ → List Place
row_places h first n = map (texture_row_place h false) (range_with_len first n)

-- so many rows from one on were asked more, each once and in order
abbrev pub RowsRead : Header → ℕ → ℕ → Option (List Place) → Option (List Place) → Type 0
RowsRead h first n before after = after ≡ option_map (λ places. places ++ row_places h first n) before

-- fewer than so many rows from one on were asked more, each once and in order, and then the next one, whose read failed
pub record RowsFailed (h : Header) (first n : ℕ) (before after : Option (List Place)) : Type 0 where
  pub count : ℕ
  pub few : count < n
  pub asked : after ≡ option_map (λ places. places ++ (row_places h first count ++ texture_row_place h true (first + count) ∷ [])) before

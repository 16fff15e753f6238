-- The store of two-byte samples that is made of one of one-byte samples.
use Rattle.std.specs.Prelude.{◌≡◌, ℕ, ◌+◌, ◌-◌, ◌*◌, ◌<◌, List, [], ◌∷◌, take, min, Option, Some, option_map}
use Rattle.vt_definitions.specs.Depths.{word_of, red_of, green_of, blue_of}
use Rattle.vt_definitions.specs.Texels.{Source}
use Rattle.vt_outside.specs.Files.{Files, with_bytes, with_appended}
use Rattle.vt_pages.specs.Shape.{Shape}
use Rattle.vt_tiles.specs.Format.{store_bytes, stored, tiles_bytes}
use Rattle.vt_tiles.specs.TileLines.{piece_at}

-- so many times a sample of one byte is the sample of two bytes that stands for the same light: 255 becomes 65535
abbrev pub widening : ℕ
widening = 257

-- a word of one-byte samples as one of two-byte samples
abbrev pub widened_word : ℕ → ℕ
widened_word w = word_of 2 (red_of 1 w * widening) (green_of 1 w * widening) (blue_of 1 w * widening)

-- a source of one-byte samples as one of two-byte samples
abbrev pub widened : Source → Source
widened src k x y = widened_word (src k x y)

-- the store of two-byte samples that the bytes of one of one-byte samples are made into
abbrev pub widened_store : Shape → List ℕ → List ℕ
widened_store s b = store_bytes s 2 (widened (stored b))

-- the name holds the widened store, where the bytes of the old one are known, and every other name what it held
pub record HoldsWidened (known : Option (List ℕ)) (s : Shape) (name : List ℕ) (before after : Option Files) : Type 0 where
  pub written : List ℕ
  pub held : after ≡ option_map (with_bytes name written) before
  pub same : (b : List ℕ) → known ≡ Some b → written ≡ widened_store s b

-- the name holds a prefix of it
pub record HoldsFront (known : Option (List ℕ)) (s : Shape) (name : List ℕ) (before after : Option Files) : Type 0 where
  pub written : List ℕ
  pub held : after ≡ option_map (with_bytes name written) before
  pub part : (b : List ℕ) → known ≡ Some b → (k : ℕ) × (written ≡ take k (widened_store s b))

-- the name gained the widened tiles of so many pages from one on
pub record GainsTiles (known : Option (List ℕ)) (s : Shape) (first count : ℕ) (name : List ℕ) (before after : Option Files) : Type 0 where
  pub tiles : List ℕ
  pub held : after ≡ option_map (with_appended name tiles) before
  pub same : (b : List ℕ) → known ≡ Some b → tiles ≡ tiles_bytes s 2 (widened (stored b)) first count

-- the name gained a prefix of them
pub record GainsFront (known : Option (List ℕ)) (s : Shape) (first count : ℕ) (name : List ℕ) (before after : Option Files) : Type 0 where
  pub tiles : List ℕ
  pub part : ℕ
  pub held : after ≡ option_map (with_appended name (take part tiles)) before
  pub same : (b : List ℕ) → known ≡ Some b → tiles ≡ tiles_bytes s 2 (widened (stored b)) first count

-- each byte twice, which is each byte times 257 as two bytes
abbrev pub doubled : List ℕ → List ℕ
doubled [] = []
doubled (byte ∷ rest) = byte ∷ byte ∷ doubled rest

-- the texels of a line of one-byte samples as texels of two-byte samples, and past its end its last one
pub record IsWideLine (texels : List ℕ) (columns count : ℕ) (out : List ℕ) : Type 0 where
  pub each : (x : ℕ) → x < count → piece_at 6 out x ≡ doubled (piece_at 3 texels (min x (columns - 1)))

-- the first lines of a tile of one-byte samples as lines of two-byte samples: past so many columns and rows the last one is repeated
pub record HasWideLines (tile : List ℕ) (side columns rows lines : ℕ) (out : List ℕ) : Type 0 where
  pub each : (line x : ℕ) → line < lines → x < side
      → piece_at 6 out (line * side + x) ≡ doubled (piece_at 3 tile (min line (rows - 1) * side + min x (columns - 1)))

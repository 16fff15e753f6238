-- The image format: `P6`, gap, width, gap, height, gap, maximum, a white space byte and a raster, of which each sample is kept scaled.
use Rattle.std.specs.Prelude.{◌≡◌, ◌⊎◌, ℕ, ◌+◌, ◌*◌, ◌/◌, ◌<◌, ◌≤◌, ◌==◌, ◌||◌, if◌then◌else◌, nat_le, Bool, not, IsTrue, List, [], ◌∷◌, ◌++◌, length, take, All, codes}
use Rattle.std.specs.List.{list_all, flat_map}
use Rattle.std.specs.Str.Parse.{digits_value, IsNumeral}
use Rattle.vt_definitions.specs.Depths.{greatest_sample, texel_length, sample_at, AreBytes}
use Rattle.vt_definitions.specs.Limits.{header_limit, most_read_side, most_tiled_side, line_feed, blank}
use Rattle.vt_ppm.specs.Image.{ImageView, IsImageWithin}

-- the tab, which is white space
abbrev pub tab : ℕ
tab = 9

-- the carriage return, which ends a line as the line feed does
abbrev pub carriage_return : ℕ
carriage_return = 13

-- the byte that begins a comment, `#`
abbrev pub hash : ℕ
hash = 35

-- how many digits a number may have
abbrev pub most_digits : ℕ
most_digits = 10

-- the largest maximum of a raster (the Netpbm manual's P6 page)
abbrev pub most_maximum : ℕ
most_maximum = 65535

-- the largest maximum of samples of one byte (the Netpbm manual's P6 page)
abbrev pub most_byte : ℕ
most_byte = 255

-- white space: blank, tab, line feed and carriage return
abbrev pub is_white : ℕ → Bool
is_white c = c == blank || c == tab || c == line_feed || c == carriage_return

-- a byte that ends a comment: line feed or carriage return
abbrev pub is_line_end : ℕ → Bool
is_line_end c = c == line_feed || c == carriage_return

-- a comment: `#`, bytes that end no line, and the byte that ends it
pub record IsComment (text : List ℕ) : Type 0 where
  pub remark : List ℕ
  pub ending : ℕ
  pub spelt : text ≡ hash ∷ (remark ++ (ending ∷ []))
  pub one_line : IsTrue (list_all (λ c. not (is_line_end c)) remark)
  pub ended : IsTrue (is_line_end ending)

-- what may be in a gap after its first byte: a white space byte, or a comment
abbrev pub IsGapPart : List ℕ → Type 0
IsGapPart text = ((c : ℕ) × (text ≡ c ∷ []) × IsTrue (is_white c)) ⊎ IsComment text

-- a gap: a white space byte, and then any number of white space bytes and comments
pub record IsGap (gap : List ℕ) : Type 0 where
  pub first : ℕ
  pub parts : List (List ℕ)
  pub spelt : gap ≡ first ∷ flat_map (λ part. part) parts
  pub white : IsTrue (is_white first)
  pub each : All IsGapPart parts

-- a number: some decimal digits, of which the first may be zeros
pub record IsNumber (digits : List ℕ) (value : ℕ) : Type 0 where
  pub numeral : IsNumeral 10 digits
  pub few : length digits ≤ most_digits
  pub value_is : value ≡ digits_value 10 digits

-- a field of the header: a gap and a number
pub record IsField (text : List ℕ) (value : ℕ) : Type 0 where
  pub gap : List ℕ
  pub digits : List ℕ
  pub spelt : text ≡ gap ++ digits
  pub is_gap : IsGap gap
  pub is_number : IsNumber digits value

-- a header: `P6`, the fields of the width, the height and the maximum, and one white space byte (the Netpbm manual's P6 page)
pub record IsHeader (text : List ℕ) (width height maximum : ℕ) : Type 0 where
  pub first : List ℕ
  pub second : List ℕ
  pub third : List ℕ
  pub space : ℕ
  pub spelt : text ≡ codes "P6" ++ (first ++ (second ++ (third ++ (space ∷ []))))
  pub width_field : IsField first width
  pub height_field : IsField second height
  pub maximum_field : IsField third maximum
  pub white : IsTrue (is_white space)

-- the bytes begin with a header, after which the raster would be (the Netpbm manual's P6 page)
pub record HasHeader (b : List ℕ) (raster width height maximum : ℕ) : Type 0 where
  pub within : raster ≤ length b
  pub early : raster ≤ header_limit
  pub header : IsHeader (take raster b) width height maximum

-- two headers are one: the place of the raster, the sides and the maximum of one are the other's
pub record AreSameHeaders (r w h m s u v n : ℕ) : Type 0 where
  pub raster : r ≡ s
  pub width : w ≡ u
  pub height : h ≡ v
  pub maximum : m ≡ n

-- a maximum of a raster (the Netpbm manual's P6 page)
pub record IsMaximum (maximum : ℕ) : Type 0 where
  pub some : 1 ≤ maximum
  pub few : maximum ≤ most_maximum

-- how many bytes a sample has: one where the maximum fits in one, else two (the Netpbm manual's P6 page)
unfoldable pub depth_of : ℕ → ℕ
depth_of maximum = if nat_le maximum most_byte then 1 else 2

-- the first samples, so many, are not above the maximum
abbrev pub AreUpTo : ℕ → ℕ → ℕ → List ℕ → Type 0
AreUpTo depth maximum count samples = (i : ℕ) → i < count → sample_at depth samples i ≤ maximum

-- a sample as it is kept, where the largest is the greatest of its depth: to the nearest, halves up
abbrev pub scaled : ℕ → ℕ → ℕ → ℕ
scaled depth maximum sample = (sample * greatest_sample depth + maximum / 2) / maximum

-- the first samples, so many, are those of a raster as they are kept
abbrev pub AreScaled : ℕ → ℕ → ℕ → List ℕ → List ℕ → Type 0
AreScaled depth maximum count raster samples =
    (i : ℕ) → i < count → sample_at depth samples i ≡ scaled depth maximum (sample_at depth raster i)

-- the bytes spell an image whose sides are at most a number: a header, its raster, row by row from the top, and any rest (the Netpbm
-- manual's P6 page)
pub record IsImageUpTo (most : ℕ) (b : List ℕ) (p : ImageView) : Type 0 where
  pub text : List ℕ
  pub raster : List ℕ
  pub rest : List ℕ
  pub maximum : ℕ
  pub spelt : b ≡ text ++ (raster ++ rest)
  pub header : IsHeader text p.width p.height maximum
  pub early : length text ≤ header_limit
  pub lawful : IsMaximum maximum
  pub depth_is : p.depth ≡ depth_of maximum
  pub image : IsImageWithin most p
  pub full : length raster ≡ texel_length p.depth * (p.width * p.height)
  pub few : AreUpTo p.depth maximum (3 * (p.width * p.height)) raster
  pub kept : AreScaled p.depth maximum (3 * (p.width * p.height)) raster p.samples
  pub bytes : AreBytes p.samples

-- the bytes spell an image that may be read whole
abbrev pub IsImage : List ℕ → ImageView → Type 0
IsImage = IsImageUpTo most_read_side

-- the bytes spell a texture: an image that may be cut into tiles
abbrev pub IsTexture : List ℕ → ImageView → Type 0
IsTexture = IsImageUpTo most_tiled_side

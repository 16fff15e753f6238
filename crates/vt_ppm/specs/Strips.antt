-- A texture that is read by strips, which are whole rows.
use Rattle.std.specs.Prelude.{◌≡◌, ℕ, zero, suc, ◌+◌, ◌-◌, ◌*◌, ◌/◌, ◌<◌, ◌≤◌, Bool, true, false, List, [], ◌∷◌, ◌++◌, length, map, All, take, drop, min, Option, Some, option_map, Result, Ok, Err, IsOk}
use Rattle.std.specs.List.{range_with_len}
use Rattle.vt_definitions.specs.Depths.{AreBytes, greatest_sample, texel_length, sample_at}
use Rattle.vt_definitions.specs.Limits.{header_limit, most_tiled_side}
use Rattle.vt_definitions.specs.Numbers.{number_bytes}
use Rattle.vt_outside.specs.Files.{noted}
use Rattle.vt_outside.specs.declared.place.Place.{Place}
use Rattle.vt_ppm.specs.declared.error.PpmError.{PpmError}
use Rattle.vt_ppm.specs.declared.error.PpmError.TheVariants.{SampleOver, Failed}
use Rattle.vt_ppm.specs.declared.header.Header.{Header}
use Rattle.vt_ppm.specs.Image.{ImageView}
use Rattle.vt_ppm.specs.Format.{IsMaximum, IsTexture, AreUpTo, depth_of, scaled}
use Rattle.vt_ppm.specs.Flaws.{AreImageSides, IsLawfulHeader}
use Rattle.vt_ppm.specs.Reads.{Gains}

-- a reader of strips: its file, the header of the texture, and whether no sample was found above the maximum
pub record StripView (F : Type 0) : Type 0 where
  pub file : F
  pub header : Header
  pub checked : Bool

-- the bytes of the first n samples of some values, at a depth
unfoldable pub sample_bytes : ℕ → (ℕ → ℕ) → ℕ → List ℕ
sample_bytes d value zero = []
sample_bytes d value (suc n) = sample_bytes d value n ++ number_bytes d (value n)

-- the samples behind the header, so many, as they are kept
unfoldable pub kept_samples : ℕ → ℕ → ℕ → List ℕ → List ℕ
kept_samples raster maximum count b =
    sample_bytes (depth_of maximum) (λ i. scaled (depth_of maximum) maximum (sample_at (depth_of maximum) (drop raster b) i)) count

-- the texture that bytes spell behind this header
abbrev pub texture_of : Header → List ℕ → ImageView
texture_of h b = record {
  depth = depth_of h.maximum;
  width = h.width;
  height = h.height;
  samples = kept_samples h.raster h.maximum (3 * (h.width * h.height)) b;
}

-- how many bytes a row has, in the file and as it is kept
abbrev pub row_length : Header → ℕ
row_length h = texel_length (depth_of h.maximum) * h.width

-- the place of a row in the file, or that of the raster's end for the number of rows
abbrev pub row_start : Header → ℕ → ℕ
row_start h y = h.raster + y * row_length h

-- the samples of so many rows from one on
abbrev pub sample_rows : Header → List ℕ → ℕ → ℕ → List ℕ
sample_rows h b y count = take (count * row_length h) (drop (y * row_length h) (texture_of h b).samples)

-- numbers of a header that is lawful for a texture, whatever the bytes
pub record IsTextureHeader (h : Header) : Type 0 where
  pub sides : AreImageSides most_tiled_side h.width h.height
  pub maximum : IsMaximum h.maximum
  pub early : h.raster ≤ header_limit

-- the bytes, which are bytes, begin with this header, and have its whole raster
pub record HasRaster (b : List ℕ) (h : Header) : Type 0 where
  pub values : AreBytes b
  pub header : IsLawfulHeader most_tiled_side b h.raster h.width h.height h.maximum
  pub full : row_start h h.height ≤ length b

-- the bytes, where they are known, begin with this header and have its whole raster
pub record HasRasterIfKnown (known : Option (List ℕ)) (h : Header) : Type 0 where
  pub each : (b : List ℕ) → known ≡ Some b → HasRaster b h

-- the bytes, where they are known, spell the texture behind this header
pub record IsTextureIfKnown (known : Option (List ℕ)) (h : Header) : Type 0 where
  pub each : (b : List ℕ) → known ≡ Some b → IsTexture b (texture_of h b)

-- a sample may be above the maximum: the maximum is not the greatest of its depth
abbrev pub MayBeOver : Header → Type 0
MayBeOver h = h.maximum < greatest_sample (depth_of h.maximum)

-- no sample of the first rows, so many, is above the maximum
abbrev pub AreRowsUpTo : Header → List ℕ → ℕ → Type 0
AreRowsUpTo h b rows = AreUpTo (depth_of h.maximum) h.maximum (3 * (h.width * rows)) (drop h.raster b)

-- no sample of the bytes, where they are known, is above the maximum
pub record HasSamplesIfKnown (known : Option (List ℕ)) (h : Header) : Type 0 where
  pub each : (b : List ℕ) → known ≡ Some b → AreRowsUpTo h b h.height

-- one place more was asked: that of so many rows from one on
abbrev pub RowsAsked : Header → ℕ → ℕ → Bool → Option (List Place) → Option (List Place) → Type 0
RowsAsked h y count failed before after = after ≡ option_map (noted (row_start h y) (count * row_length h) failed) before

-- how many rows are looked over at once: as many as fill a mebibyte, and no more than there are
abbrev pub piece_rows : Header → ℕ
piece_rows h = min h.height ((1048575 + row_length h) / row_length h)

-- in how many such pieces the raster is looked over
abbrev pub pieces_of : Header → ℕ
pieces_of h = (h.height + piece_rows h - 1) / piece_rows h

-- how many rows a piece has: the last one those that are left
abbrev pub raster_piece_count : Header → ℕ → ℕ
raster_piece_count h i = min (piece_rows h) (h.height - i * piece_rows h)

-- what a reader knows of its file: the header, that the raster is there, and, once they were looked over, the samples; and it has
-- room for a piece, where pieces will be read
pub record IsStripReader (known : Option (List ℕ)) (h : Header) (checked : Bool) (space : ℕ) : Type 0 where
  pub header : IsTextureHeader h
  pub raster : HasRasterIfKnown known h
  pub samples : checked ≡ true → HasSamplesIfKnown known h
  pub room : MayBeOver h → space ≡ piece_rows h * row_length h

-- the place of a piece
abbrev pub raster_piece_place : Header → Bool → ℕ → Place
raster_piece_place h failed i = record { at = row_start h (i * piece_rows h); len = raster_piece_count h i * row_length h; failed = failed }

-- the places of the first n pieces, in order
abbrev pub raster_piece_places : Header → ℕ → List Place
raster_piece_places h n = map (raster_piece_place h false) (range_with_len 0 n)

-- the first n pieces were asked more, each once and in order
abbrev pub RasterPiecesAsked : Header → ℕ → Option (List Place) → Option (List Place) → Type 0
RasterPiecesAsked h n before after = after ≡ option_map (λ places. places ++ raster_piece_places h n) before

-- the first n pieces were asked more and then the next one, whose read failed
abbrev pub PiecesFailed : Header → ℕ → Option (List Place) → Option (List Place) → Type 0
PiecesFailed h n before after =
    after ≡ option_map (λ places. places ++ (raster_piece_places h n ++ raster_piece_place h true n ∷ [])) before

-- what is asked to look so many rows over from one on, by the answer: their place, whose read failed or did not; and a sample above the
-- maximum is in it
abbrev pub ChecksRows : Header → ℕ → ℕ → {T : Type 0} → Result T PpmError → Option (List Place) → Option (List Place) → Type 0
ChecksRows h y count (Ok _) before after = RowsAsked h y count false before after
ChecksRows h y count (Err (SampleOver at)) before after = (at < row_start h (y + count)) × RowsAsked h y count false before after
ChecksRows h y count (Err Failed) before after = RowsAsked h y count true before after
ChecksRows h y count (Err _) before after = ⊥

-- the pieces that are asked to look a raster over, by the answer: all of them; those up to that of a sample above the maximum; or those
-- up to the one whose read failed
abbrev pub ChecksPieces : Header → {T : Type 0} → Result T PpmError → Option (List Place) → Option (List Place) → Type 0
ChecksPieces h (Ok _) before after = RasterPiecesAsked h (pieces_of h) before after
ChecksPieces h (Err (SampleOver at)) before after =
    (n : ℕ) × (n < pieces_of h) × (at < row_start h (n * piece_rows h + raster_piece_count h n)) × RasterPiecesAsked h (n + 1) before after
ChecksPieces h (Err Failed) before after = (n : ℕ) × (n < pieces_of h) × PiecesFailed h n before after
ChecksPieces h (Err _) before after = ⊥

-- nothing was asked of the file, and nothing was refused
pub record ReadsNothing {T : Type 0} (r : Result T PpmError) (before after : Option (List Place)) (faults risen : ℕ) : Type 0 where
  pub done : IsOk r
  pub places : after ≡ before
  pub count : risen ≡ faults

-- the file that an opening hands back, in the reader or beside the refusal
abbrev pub image_file_after : {F : Type 0} → Result (StripView F) (F × PpmError) → F
image_file_after (Ok reader) = reader.file
image_file_after (Err refusal) = refusal.0

-- the answer of an opening without its file
abbrev pub answer_in : {F : Type 0} → Result (StripView F) (F × PpmError) → Result Header PpmError
answer_in (Ok reader) = Ok reader.header
answer_in (Err refusal) = Err refusal.1

-- the place of rows of the raster: so many from one on
pub record IsRowsPlace (h : Header) (place : Place) : Type 0 where
  pub y : ℕ
  pub count : ℕ
  pub inside : y + count ≤ h.height
  pub begins : place.at ≡ row_start h y
  pub whole : place.len ≡ count * row_length h

-- places of rows were asked more, and no other
pub record GainsRows (h : Header) (before after : Option (List Place)) : Type 0 where
  pub places : List Place
  pub gained : Gains before after places
  pub each : All (IsRowsPlace h) places

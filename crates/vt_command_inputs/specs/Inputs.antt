-- What a command reads: the kinds of inputs, each with a row in every definition here.
use Rattle.std.specs.Prelude.{◌≡◌, ◌⊎◌, ℕ, ◌≤◌, ◌<◌, Bool, true, false, List, [], ◌∷◌, ◌++◌, length, min, All, Option, Some, None, Result, Ok, IfSome}
use Rattle.vt_pages.specs.Limits.{most_read_side, most_tiled_side}
use Rattle.vt_outside.specs.Files.{noted}
use Rattle.vt_outside.specs.declared.place.Place.{Place}
use Rattle.vt_ppm.specs.Image.{ImageView}
use Rattle.vt_ppm.specs.Format.{IsImage, IsTexture}
use Rattle.vt_ppm.specs.Flaws.{IsImageFlaw, IsHeaderFlaw}
use Rattle.vt_ppm.specs.Reads.{IsFrontPlace, AreHeaderPlaces, AreImagePlaces}
use Rattle.vt_ppm.specs.Strips.{HasRasterIfKnown, MayBeOver, ChecksPieces, IsRowsPlace}
use Rattle.vt_ppm.specs.declared.header.Header.{Header}
use Rattle.vt_ppm.specs.declared.error.PpmError.{PpmError}
use Rattle.vt_camera.specs.Paths.{PathView}
use Rattle.vt_camera.specs.PathText.{IsPathText}
use Rattle.vt_camera.specs.PathFlaws.{IsPathFlaw}
use Rattle.vt_camera.specs.declared.parse.PathError.{PathError}
use Rattle.vt_pages.specs.Shape.{Shape, shape_of}
use Rattle.vt_pages.specs.Pages.{refusal_of}
use Rattle.vt_pages.specs.declared.PagesError.TheVariants as pages_error
use Rattle.vt_tiles.specs.Format.{store_flaw, header_length}
use Rattle.vt_tiles.specs.StoreViews.{IsStore, IsStoreIfKnown}
use Rattle.vt_tiles.specs.Places.{IsTilePlace, pieces_of, piece_place, piece_places}
use Rattle.vt_ppm.specs.StripPlaces.{strips_of, strip_place, strip_places}
use Rattle.vt_tiles.specs.declared.error.StoreError.{StoreError}
use Rattle.vt_command_inputs.specs.Flaws.{flaw_of_path, flaw_of_texture, flaw_of_store}
use Rattle.vt_command_inputs.specs.declared.flaws.Flaw.{Flaw}
use Rattle.vt_command_inputs.specs.declared.flaws.Flaw.TheVariants.{TooManyPages, AlreadyWide}

-- a file that a command reads, by its name: a path, a texture, a texture that is to have few enough pages of a tile side, a store,
-- a store that is to have samples of one byte, a store whose tiles are read, or a journal
pub data Input : Type 0 where
  PathInput : List ℕ → Input
  TextureInput : List ℕ → Input
  TiledTexture : List ℕ → ℕ → Input
  StoreInput : List ℕ → Input
  NarrowStore : List ℕ → Input
  PagedStore : List ℕ → Input
  JournalInput : List ℕ → Input

-- what an input holds; a store's header tells the shape of its pages and its depth, and of a store whose tiles are read all bytes count;
-- any bytes are a journal's text, which is judged beside the path and the store
pub data InputContent : Type 0 where
  PathContent : PathView → InputContent
  TextureContent : ImageView → InputContent
  StoreContent : Shape → ℕ → InputContent
  NarrowContent : Shape → List ℕ → InputContent
  PagedContent : Shape → ℕ → List ℕ → InputContent
  TextContent : List ℕ → InputContent

-- the name of an input
abbrev pub name_of : Input → List ℕ
name_of (PathInput name) = name
name_of (TextureInput name) = name
name_of (TiledTexture name tile) = name
name_of (StoreInput name) = name
name_of (NarrowStore name) = name
name_of (PagedStore name) = name
name_of (JournalInput name) = name

-- the shape of a texture's pages
abbrev pub texture_shape : ImageView → ℕ → Shape
texture_shape texture tile = shape_of texture.width texture.height tile

-- the bytes are those of an input with this content
abbrev pub IsContent : Input → List ℕ → InputContent → Type 0
IsContent (PathInput name) bytes (PathContent path) = IsPathText bytes path
IsContent (TextureInput name) bytes (TextureContent texture) = IsImage bytes texture
IsContent (TiledTexture name tile) bytes (TextureContent texture) = IsTexture bytes texture × (refusal_of (texture_shape texture tile) ≡ None)
IsContent (StoreInput name) bytes (StoreContent shape depth) = IsStore bytes shape depth
IsContent (NarrowStore name) bytes (NarrowContent shape held) = IsStore bytes shape 1 × (held ≡ bytes)
IsContent (PagedStore name) bytes (PagedContent shape depth held) = IsStore bytes shape depth × (held ≡ bytes)
IsContent (JournalInput name) bytes (TextContent held) = held ≡ bytes
IsContent _ bytes _ = ⊥

-- a path has this flaw
abbrev pub IsFlawOfPath : List ℕ → Flaw → Type 0
IsFlawOfPath bytes flaw = (e : PathError) × IsPathFlaw bytes e × (flaw_of_path e ≡ Ok flaw)

-- a texture that is read whole has this flaw
abbrev pub IsFlawOfTexture : List ℕ → Flaw → Type 0
IsFlawOfTexture bytes flaw = (e : PpmError) × IsImageFlaw bytes e × (flaw_of_texture e ≡ Ok flaw)

-- a texture that is cut into tiles, whose sides may be larger, has this flaw
abbrev pub IsFlawOfTiled : List ℕ → Flaw → Type 0
IsFlawOfTiled bytes flaw = (e : PpmError) × IsHeaderFlaw bytes e × (flaw_of_texture e ≡ Ok flaw)

-- a texture has too many pages of a tile side
pub record HasManyPages (bytes : List ℕ) (tile : ℕ) (flaw : Flaw) : Type 0 where
  pub texture : ImageView
  pub is : IsTexture bytes texture
  pub pages : ℕ
  pub many : refusal_of (texture_shape texture tile) ≡ Some (pages_error.TooManyPages pages)
  pub flaw_is : flaw ≡ TooManyPages pages

-- a store has this flaw
abbrev pub IsFlawOfStore : List ℕ → Flaw → Type 0
IsFlawOfStore bytes flaw = (e : StoreError) × (store_flaw bytes ≡ Some e) × (flaw_of_store e ≡ Ok flaw)

-- a store has samples of two bytes already
pub record IsAlreadyWide (bytes : List ℕ) (flaw : Flaw) : Type 0 where
  pub shape : Shape
  pub is : IsStore bytes shape 2
  pub flaw_is : flaw ≡ AlreadyWide

-- the bytes have this flaw as those of an input
abbrev pub IsFlawOf : Input → List ℕ → Flaw → Type 0
IsFlawOf (PathInput name) bytes flaw = IsFlawOfPath bytes flaw
IsFlawOf (TextureInput name) bytes flaw = IsFlawOfTexture bytes flaw
IsFlawOf (TiledTexture name tile) bytes flaw = IsFlawOfTiled bytes flaw ⊎ HasManyPages bytes tile flaw
IsFlawOf (StoreInput name) bytes flaw = IsFlawOfStore bytes flaw
IsFlawOf (NarrowStore name) bytes flaw = IsFlawOfStore bytes flaw ⊎ IsAlreadyWide bytes flaw
IsFlawOf (PagedStore name) bytes flaw = IsFlawOfStore bytes flaw
IsFlawOf (JournalInput name) bytes flaw = ⊥

-- the flaw is of a kind that an input may have, whatever its bytes
abbrev pub FlawFits : Input → Flaw → Type 0
FlawFits (PathInput name) flaw = (e : PathError) × (flaw_of_path e ≡ Ok flaw)
FlawFits (TextureInput name) flaw = (e : PpmError) × (flaw_of_texture e ≡ Ok flaw)
FlawFits (TiledTexture name tile) flaw = ((e : PpmError) × (flaw_of_texture e ≡ Ok flaw)) ⊎ ((n : ℕ) × (flaw ≡ TooManyPages n))
FlawFits (StoreInput name) flaw = (e : StoreError) × (flaw_of_store e ≡ Ok flaw)
FlawFits (NarrowStore name) flaw = ((e : StoreError) × (flaw_of_store e ≡ Ok flaw)) ⊎ (flaw ≡ AlreadyWide)
FlawFits (PagedStore name) flaw = (e : StoreError) × (flaw_of_store e ≡ Ok flaw)
FlawFits (JournalInput name) flaw = ⊥

-- no place was asked, or one from the beginning on, of a length
abbrev pub AsksFront : (ℕ → Type 0) → List Place → Type 0
AsksFront IsLength places = (places ≡ []) ⊎ ((n : ℕ) × (failed : Bool) × IsLength n × (places ≡ noted 0 n failed []))

-- all bytes may be asked at once
abbrev pub AsksWhole : Option (List ℕ) → List Place → Type 0
AsksWhole known places = AsksFront (λ n. IfSome known (λ bytes. n ≡ length bytes)) places

-- the header of a store may be asked, or all bytes where there are fewer
abbrev pub MayAskHeader : Option (List ℕ) → List Place → Type 0
MayAskHeader known places = AsksFront (λ n. (n ≤ header_length) × IfSome known (λ bytes. n ≡ min (length bytes) header_length)) places

-- the first so many pieces of a store of one-byte samples, each once and in order, of which the last read may have failed
abbrev pub ArePieces : Shape → List Place → Type 0
ArePieces shape places = (n : ℕ) × (n ≤ pieces_of shape) × ((places ≡ piece_places shape 1 n)
    ⊎ ((n < pieces_of shape) × (places ≡ piece_places shape 1 n ++ piece_place shape 1 true n ∷ [])))

-- the place of a whole header that was read
abbrev pub header_places : List Place
header_places = noted 0 header_length false []

-- the header of a store may be asked, or, of a store of one-byte samples, the whole header and then its pieces
abbrev pub AsksPieces : Option (List ℕ) → List Place → Type 0
AsksPieces known places = MayAskHeader known places
    ⊎ ((shape : Shape) × (pieces : List Place) × IfSome known (λ bytes. IsStore bytes shape 1) × ArePieces shape pieces × (places ≡ header_places ++ pieces))

-- the header of a store may be asked, or the whole header and then tiles of its pages
abbrev pub AsksTiles : Option (List ℕ) → List Place → Type 0
AsksTiles known places = MayAskHeader known places
    ⊎ ((shape : Shape) × (depth : ℕ) × (tiles : List Place) × IsStoreIfKnown known shape depth × All (IsTilePlace shape depth) tiles
    × (places ≡ header_places ++ tiles))

-- the places of a texture that was looked over, with what came of it: a prefix that holds its header, and then, behind whatever places
-- were asked before, those of the rows that were looked over, which are none where no sample may be above the maximum
pub record AreSeenPlaces (known : Option (List ℕ)) (header : Header) (answer : Result (Unit {0}) PpmError) (places : List Place) : Type 0 where
  pub front : Place
  pub earlier : List Place
  pub seen : List Place
  pub is_front : IsFrontPlace known front
  pub front_read : front.failed ≡ false
  pub behind : HasRasterIfKnown known header
  pub pieces : MayBeOver header → ChecksPieces header answer (Some earlier) (Some (earlier ++ seen))
  pub unread : (MayBeOver header → ⊥) → seen ≡ []
  pub rows : All (IsRowsPlace header) seen
  pub are : places ≡ front ∷ seen

-- the first strips of a texture, so many, each once and in order, of which the last read may have failed
abbrev pub AreStrips : Header → ℕ → List Place → Type 0
AreStrips header tile places = (n : ℕ) × (n ≤ strips_of header tile) × ((places ≡ strip_places header tile n)
    ⊎ ((n < strips_of header tile) × (places ≡ strip_places header tile n ++ strip_place header tile true n ∷ [])))

-- the header of a texture may be asked; or then its rows, to look them over; or then, where no sample is above the maximum, its strips
abbrev pub AsksStrips : ℕ → Option (List ℕ) → List Place → Type 0
AsksStrips tile known places = AreHeaderPlaces known places
    ⊎ (((header : Header) × (answer : Result (Unit {0}) PpmError) × AreSeenPlaces known header answer places)
    ⊎ ((header : Header) × (seen : List Place) × (strips : List Place) × AreSeenPlaces known header (Ok tt) seen × AreStrips header tile strips
    × (places ≡ seen ++ strips)))

-- how many rows a strip has of a texture that is not cut into tiles
abbrev pub texture_strip : ℕ
texture_strip = 128

-- the header of a texture may be asked, and then its raster, at once or by strips
abbrev pub AsksTexture : Option (List ℕ) → List Place → Type 0
AsksTexture known places = AreImagePlaces known places ⊎ AsksStrips texture_strip known places

-- the places that may be asked of an input whose bytes may be known: of a texture a prefix that holds its header, and then its raster,
-- at once or by rows; if it is cut into tiles, by rows
abbrev pub MayAsk : Input → Option (List ℕ) → List Place → Type 0
MayAsk (PathInput name) = AsksWhole
MayAsk (TextureInput name) = AsksTexture
MayAsk (TiledTexture name tile) = AsksStrips tile
MayAsk (StoreInput name) = MayAskHeader
MayAsk (NarrowStore name) = AsksPieces
MayAsk (PagedStore name) = AsksTiles
MayAsk (JournalInput name) = AsksWhole

-- the input of a name is a texture whose sides are at most a number
abbrev pub IsTextureUpTo : List ℕ → ℕ → Input → Type 0
IsTextureUpTo name most (TextureInput named) = (named ≡ name) × (most ≡ most_read_side)
IsTextureUpTo name most (TiledTexture named tile) = (named ≡ name) × (most ≡ most_tiled_side)
IsTextureUpTo name most _ = ⊥

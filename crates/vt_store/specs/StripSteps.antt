-- What the writing of a store of strips does in one step: a strip's row of tiles is added while the next strip is read.
use Rattle.std.specs.Prelude.{◌≡◌, ◌⊎◌, ℕ, ◌+◌, ◌*◌, ◌<◌, ◌≤◌, Bool, true, false, List, Option, Some, Result, Ok, Err, IfSome, OnOk, IsErr, is_err}
use Rattle.vt_outside.specs.Counts.{Rose}
use Rattle.vt_outside.specs.Effects.{FolderEffect}
use Rattle.vt_outside.specs.Files.{Files}
use Rattle.vt_outside.specs.declared.outside.File.{Ghosts as FileMeanings}
use Rattle.vt_outside.specs.declared.place.Place.{Place}
use Rattle.vt_ppm.specs.declared.header.Header.{Header}
use Rattle.vt_ppm.specs.Format.{depth_of}
use Rattle.vt_ppm.specs.StripPlaces.{strip_rows, strips_of, StripsAsked, StripsTried}
use Rattle.vt_ppm.specs.Image.{ImageView}
use Rattle.vt_ppm.specs.Strips.{IsTextureIfKnown, RowsAsked, sample_rows, texture_of}
use Rattle.vt_mip.specs.StripChains.{StripChainView}
use Rattle.vt_mip.specs.TakenRows.{HalvingView, HalvesFront}
use Rattle.vt_pages.specs.Shape.{Shape, shape_of}
use Rattle.vt_pages.specs.Pages.{columns_at, rows_at}
use Rattle.vt_tiles.specs.declared.error.StoreError.{StoreError}
use Rattle.vt_tiles.specs.declared.error.StoreError.TheVariants.{Failed}
use Rattle.vt_tiles.specs.Made.{HoldsMade, HoldsMadeFront}
use Rattle.vt_tiles.specs.Refusals.{IsOutsideRefusal}
use Rattle.vt_store.specs.ChainStores.{texture_store}
use Rattle.vt_store.specs.Steps.{AsksNoPlace, Makes, Steps}
use Rattle.vt_store.specs.StripStores.{strip_front, strip_tiles}

-- a texture that is read by rows: its file's bytes and places, where they are known, its name and its counts; and its header and tile side
pub record RowsState : Type 0 where
  pub known : Option (List ℕ)
  pub places : Option (List Place)
  pub called : List ℕ
  pub spare : ℕ
  pub faults : ℕ
  pub header : Header
  pub tile : ℕ

abbrev pub rows_state : {F : Type 0} → FileMeanings F → StripChainView F → RowsState
rows_state g chain = record {
  known = g.bytes chain.file;
  places = g.asked chain.file;
  called = g.name chain.file;
  spare = g.spare chain.file;
  faults = g.faults chain.file;
  header = chain.header;
  tile = chain.tile;
}

-- the file, the header and the tile side are as before, and the count of faults did not fall
pub record KeepsRows (before after : RowsState) : Type 0 where
  pub known : after.known ≡ before.known
  pub called : after.called ≡ before.called
  pub header : after.header ≡ before.header
  pub tile : after.tile ≡ before.tile
  pub faults : before.faults ≤ after.faults

-- rows of it were read into a room, or their read failed; a place was noted
pub record ReadsRows {T E : Type 0} (y count : ℕ) (a b : RowsState) (rows : List ℕ) (result : Result T E) : Type 0 where
  pub read : OnOk result (IfSome a.known (λ bytes. rows ≡ sample_rows a.header bytes y count))
  pub texture : IsTextureIfKnown a.known a.header
  pub failed : IsErr result → Rose a.faults b.faults
  pub asked : RowsAsked a.header y count (is_err result) a.places b.places
  pub spare : a.spare ≤ b.spare + 1
  pub kept : KeepsRows a b

-- no row more was halved
pub record KeepsHalf (a b : HalvingView) : Type 0 where
  pub taken : b.taken ≡ a.taken
  pub depth : b.depth ≡ a.depth
  pub width : b.width ≡ a.width
  pub height : b.height ≡ a.height
  pub halves : (p : ImageView) → HalvesFront p a → HalvesFront p b

-- a texture that is read by strips: its file's bytes and places, where they are known, its name and its counts; its header and tile side; and
-- level 1 as far as it is made
pub record StripsState : Type 0 where
  pub known : Option (List ℕ)
  pub places : Option (List Place)
  pub called : List ℕ
  pub spare : ℕ
  pub faults : ℕ
  pub header : Header
  pub tile : ℕ
  pub half : HalvingView

abbrev pub strips_state : {F : Type 0} → FileMeanings F → StripChainView F → HalvingView → StripsState
strips_state g chain half = record {
  known = g.bytes chain.file;
  places = g.asked chain.file;
  called = g.name chain.file;
  spare = g.spare chain.file;
  faults = g.faults chain.file;
  header = chain.header;
  tile = chain.tile;
  half = half;
}

-- the texture of the strips, without level 1
abbrev pub rows_of : StripsState → RowsState
rows_of a = record { known = a.known; places = a.places; called = a.called; spare = a.spare; faults = a.faults; header = a.header; tile = a.tile }

abbrev pub KeepsStrips : StripsState → StripsState → Type 0
KeepsStrips before after = KeepsRows (rows_of before) (rows_of after)

-- strip i is there, one read may be noted, and just the rows above it were halved
pub record IsNextStrip (s : Shape) (i : ℕ) (a : StripsState) : Type 0 where
  pub shape : shape_of a.header.width a.header.height a.tile ≡ s
  pub inside : i < rows_at s 0
  pub spare : 1 ≤ a.spare
  pub depth : a.half.depth ≡ depth_of a.header.maximum
  pub width : a.half.width ≡ a.header.width
  pub height : a.half.height ≡ a.header.height
  pub taken : a.half.taken ≡ i * s.tile

-- strip i was asked more, and its read failed or not
abbrev pub StripAsked : Shape → ℕ → Bool → StripsState → StripsState → Type 0
StripAsked s i failed before after = RowsAsked before.header (i * s.tile) (strip_rows before.header s.tile i) failed before.places after.places

-- strip i is there, as above, but that no further read may be noted
pub record IsStripThere (s : Shape) (i : ℕ) (a : StripsState) : Type 0 where
  pub shape : shape_of a.header.width a.header.height a.tile ≡ s
  pub inside : i < rows_at s 0
  pub depth : a.half.depth ≡ depth_of a.header.maximum
  pub width : a.half.width ≡ a.header.width
  pub height : a.half.height ≡ a.header.height
  pub taken : a.half.taken ≡ i * s.tile

-- strip i was read into a room, and level 1 stands as before
pub record StripRead (s : Shape) (i : ℕ) (before after : StripsState) (room : List ℕ) : Type 0 where
  pub read : StripAsked s i false before after
  pub texture : IsTextureIfKnown before.known before.header
  pub rows : IfSome before.known (λ b. room ≡ sample_rows before.header b (i * s.tile) (strip_rows before.header s.tile i))
  pub halves : (p : ImageView) → HalvesFront p before.half → HalvesFront p after.half
  pub taken : after.half.taken ≡ before.half.taken
  pub depth : after.half.depth ≡ before.half.depth
  pub width : after.half.width ≡ before.half.width
  pub height : after.half.height ≡ before.half.height

-- strip i was read, its rows were halved into level 1, and its tiles were made
pub record StripMade (s : Shape) (i : ℕ) (before after : StripsState) (row : List ℕ) : Type 0 where
  pub read : StripAsked s i false before after
  pub tiles : (b : List ℕ) → before.known ≡ Some b → row ≡ strip_tiles s before.header i b
  pub halves : (b : List ℕ) → before.known ≡ Some b → HalvesFront (texture_of before.header b) before.half
      → HalvesFront (texture_of before.header b) after.half
  pub taken : after.half.taken ≡ before.half.taken + strip_rows before.header s.tile i
  pub depth : after.half.depth ≡ before.half.depth
  pub width : after.half.width ≡ before.half.width
  pub height : after.half.height ≡ before.half.height

-- its read failed
pub record StripLost (s : Shape) (i : ℕ) (before after : StripsState) : Type 0 where
  pub read : StripAsked s i true before after
  pub rose : Rose before.faults after.faults

-- strip i was read, or not
abbrev pub ReadsStrip : {T E : Type 0} → Shape → ℕ → StripsState → StripsState → List ℕ → Result T E → Type 0
ReadsStrip s i before after room r = Makes (StripRead s i before after room) (StripLost s i before after) r

-- strip i was made, or not
abbrev pub MakesStrip : {T E : Type 0} → Shape → ℕ → StripsState → StripsState → List ℕ → Result T E → Type 0
MakesStrip s i before after tiles r = Makes (StripMade s i before after tiles) (StripLost s i before after) r

-- strip i was asked for or not
abbrev pub StripTried : Shape → ℕ → StripsState → StripsState → Type 0
StripTried s i before after =
    (after.places ≡ before.places) ⊎ (StripAsked s i false before after ⊎ StripAsked s i true before after)

-- a step of the texture's strips from a to b and of a folder: tiles are added, and strip i is made
abbrev pub StripStep : {T : Type 0} → Shape → ℕ → List ℕ → List ℕ → List ℕ → StripsState → StripsState → FolderEffect → Result T StoreError → Type 0
StripStep s i name tiles next a b folder r = Steps (StripMade s i a b next) (StripTried s i a b) (Rose a.faults b.faults) name tiles folder r

-- what a step leaves
pub record KeepsStep (a b : StripsState) (folder : FolderEffect) : Type 0 where
  pub strips : KeepsStrips a b
  pub spare : a.spare ≤ b.spare + 1
  pub asks : AsksNoPlace folder

-- the store of the texture that bytes spell behind a header
abbrev pub state_store : StripsState → List ℕ → List ℕ
state_store a b = texture_store (texture_of a.header b) a.tile

-- the tiles of all strips were added to the name behind the store's header, and level 1 is made
pub record StripsDone (s : Shape) (name : List ℕ) (a b : StripsState) (folder : FolderEffect) : Type 0 where
  pub whole : (before : Option Files) → HoldsMade a.known (strip_front s a.header 0) name before folder.before.files
      → HoldsMade a.known (strip_front s a.header (rows_at s 0 * columns_at s 0)) name before folder.after.files
  pub all_read : StripsAsked a.header s.tile (strips_of a.header s.tile) a.places b.places
  pub halves : (bytes : List ℕ) → a.known ≡ Some bytes → HalvesFront (texture_of a.header bytes) a.half → HalvesFront (texture_of a.header bytes) b.half
  pub all_taken : b.half.taken ≡ a.half.height
  pub half_depth : b.half.depth ≡ a.half.depth
  pub half_width : b.half.width ≡ a.half.width
  pub half_height : b.half.height ≡ a.half.height

-- the name holds a prefix of the store, and a prefix of the strips was read
pub record StripsStopped (s : Shape) (name : List ℕ) (a b : StripsState) (folder : FolderEffect) (e : StoreError) : Type 0 where
  pub part : (before : Option Files) → HoldsMade a.known (strip_front s a.header 0) name before folder.before.files
      → HoldsMadeFront a.known (state_store a) name before folder.after.files
  pub front_read : StripsTried a.header s.tile a.places b.places
  pub failed : e ≡ Failed → (before : Option Files) → HoldsMade a.known (strip_front s a.header 0) name before folder.before.files
      → Rose folder.before.faults folder.after.faults ⊎ Rose a.faults b.faults
  pub outside : IsOutsideRefusal e

abbrev pub AddsStrips : {T : Type 0} → Shape → List ℕ → StripsState → StripsState → FolderEffect → Result T StoreError → Type 0
AddsStrips s name a b folder (Ok _) = StripsDone s name a b folder
AddsStrips s name a b folder (Err e) = StripsStopped s name a b folder e

-- the name holds the store that the bytes of a texture make, and each strip of it was read
pub record StoreWritten (s : Shape) (name : List ℕ) (store : List ℕ → List ℕ) (a b : RowsState) (folder : FolderEffect) : Type 0 where
  pub whole : HoldsMade a.known store name folder.before.files folder.after.files
  pub all_read : StripsAsked a.header s.tile (strips_of a.header s.tile) a.places b.places

-- the name is as before or holds a front of the store, and a prefix of the strips was read
pub record StoreRefused (s : Shape) (name : List ℕ) (store : List ℕ → List ℕ) (a b : RowsState) (folder : FolderEffect) (e : StoreError) : Type 0 where
  pub part : (folder.after.files ≡ folder.before.files) ⊎ HoldsMadeFront a.known store name folder.before.files folder.after.files
  pub front_read : StripsTried a.header s.tile a.places b.places
  pub failed : e ≡ Failed → Rose folder.before.faults folder.after.faults ⊎ Rose a.faults b.faults
  pub outside : IsOutsideRefusal e

abbrev pub WritesStore : {T : Type 0} → Shape → List ℕ → (List ℕ → List ℕ) → RowsState → RowsState → FolderEffect → Result T StoreError → Type 0
WritesStore s name store a b folder (Ok _) = StoreWritten s name store a b folder
WritesStore s name store a b folder (Err e) = StoreRefused s name store a b folder e

-- What a round does in which rows of tiles are made in one thread, and added in another.
use Rattle.std.specs.Prelude.{◌≡◌, ℕ, ◌+◌, ◌*◌, ◌≤◌, List, ◌++◌, take, min, Option, Some, Result, Ok, Err, option_map, flat_map, Vec, vec_items}
use Rattle.std.specs.declared.alloc.Global.{Global}
use Rattle.vt_outside.specs.Counts.{Rose}
use Rattle.vt_outside.specs.Effects.{FolderEffect}
use Rattle.vt_outside.specs.Files.{Files, with_bytes}
use Rattle.vt_outside.specs.declared.answers.OutsideError.{OutsideError}
use Rattle.vt_outside.specs.declared.answers.OutsideError.TheVariants as outside_error
use Rattle.vt_ppm.specs.Format.{depth_of}
use Rattle.vt_ppm.specs.StripPlaces.{StripsAsked, StripsTried}
use Rattle.vt_ppm.specs.Strips.{texture_of}
use Rattle.vt_mip.specs.StripChains.{texture_texel}
use Rattle.vt_mip.specs.TakenRows.{HalvesFront}
use Rattle.vt_pages.specs.Shape.{Shape}
use Rattle.vt_pages.specs.Pages.{columns_at, rows_at}
use Rattle.vt_tiles.specs.Format.{tiles_bytes}
use Rattle.vt_tiles.specs.Made.{HoldsMade}
use Rattle.vt_tiles.specs.declared.error.StoreError.{StoreError}
use Rattle.vt_store.specs.Steps.{AsksNoPlace}
use Rattle.vt_store.specs.StripStores.{strip_front}
use Rattle.vt_store.specs.StripSteps.{StripsState, StripsStopped, KeepsStrips}

-- rows of tiles
abbrev pub Rows : Type 0
Rows = List (Vec ℕ Global)

-- their bytes, one row behind the other
abbrev pub joined : Rows → List ℕ
joined rows = flat_map (λ row. vec_items row) rows

-- the name holds a prefix of bytes, and the call failed only where the count rose
pub record HoldsUpTo (n bytes : List ℕ) (before : Option Files) (folder : FolderEffect) (e : OutsideError) : Type 0 where
  pub part : ℕ
  pub held : folder.after.files ≡ option_map (with_bytes n (take part bytes)) before
  pub rose : e ≡ outside_error.Failed → Rose folder.before.faults folder.after.faults

-- where the name held some rows behind whatever bytes, it holds more of them behind these
pub record HoldsRows (n : List ℕ) (held now : Rows) (folder : FolderEffect) : Type 0 where
  pub each : (before : Option Files) (done : List ℕ) → folder.before.files ≡ option_map (with_bytes n (done ++ joined held)) before
      → folder.after.files ≡ option_map (with_bytes n (done ++ joined now)) before

-- or a prefix of these
pub record HoldsRowsUpTo (n : List ℕ) (held now : Rows) (folder : FolderEffect) (e : OutsideError) : Type 0 where
  pub each : (before : Option Files) (done : List ℕ) → folder.before.files ≡ option_map (with_bytes n (done ++ joined held)) before
      → HoldsUpTo n (done ++ joined now) before folder e

abbrev pub AddsRows : {T : Type 0} → List ℕ → Rows → Rows → FolderEffect → Result T OutsideError → Type 0
AddsRows n held now folder (Ok _) = HoldsRows n held now folder
AddsRows n held now folder (Err e) = HoldsRowsUpTo n held now folder e

-- the first strips were read and halved
pub record StripsRead (s : Shape) (count : ℕ) (a b : StripsState) : Type 0 where
  pub few : count ≤ rows_at s 0
  pub read : StripsAsked a.header s.tile count a.places b.places
  pub spare : rows_at s 0 ≤ b.spare + count
  pub kept : KeepsStrips a b
  pub taken : b.half.taken ≡ min (count * s.tile) a.header.height
  pub depth : b.half.depth ≡ a.half.depth
  pub width : b.half.width ≡ a.half.width
  pub height : b.half.height ≡ a.half.height
  pub halves : (bytes : List ℕ) → a.known ≡ Some bytes → HalvesFront (texture_of a.header bytes) a.half → HalvesFront (texture_of a.header bytes) b.half

-- rows are those of the first strips
abbrev pub AreRows : Shape → ℕ → StripsState → Rows → Type 0
AreRows s count a rows = (bytes : List ℕ) → a.known ≡ Some bytes
    → joined rows ≡ tiles_bytes s (depth_of a.header.maximum) (texture_texel a.header bytes) 0 (count * columns_at s 0)

-- the rows of the first strips were made
pub record RowsMade (s : Shape) (count : ℕ) (a b : StripsState) (rows : Rows) : Type 0 where
  pub strips : StripsRead s count a b
  pub tiles : AreRows s count a rows

-- and the next strip's read failed
pub record RowsLost (s : Shape) (a b : StripsState) (rows : Rows) : Type 0 where
  pub count : ℕ
  pub few : count ≤ rows_at s 0
  pub tiles : AreRows s count a rows
  pub tried : StripsTried a.header s.tile a.places b.places
  pub rose : Rose a.faults b.faults
  pub kept : KeepsStrips a b

-- rows were made until a stage ended, or a read failed
abbrev pub MakesRows : {E : Type 0} → Shape → StripsState → StripsState → Rows → Result ℕ E → Type 0
MakesRows s a b rows (Ok count) = RowsMade s count a b rows
MakesRows s a b rows (Err _) = RowsLost s a b rows

-- the tiles of the first strips were added to the name behind the store's header
pub record StripsAdded (s : Shape) (n : List ℕ) (count : ℕ) (a b : StripsState) (folder : FolderEffect) : Type 0 where
  pub strips : StripsRead s count a b
  pub held : (before : Option Files) → HoldsMade a.known (strip_front s a.header 0) n before folder.before.files
      → HoldsMade a.known (strip_front s a.header (count * columns_at s 0)) n before folder.after.files
  pub asks : AsksNoPlace folder

-- a round adds some, or is refused
abbrev pub AddsFirstStrips : Shape → List ℕ → StripsState → StripsState → FolderEffect → Result ℕ StoreError → Type 0
AddsFirstStrips s n a b folder (Ok count) = StripsAdded s n count a b folder
AddsFirstStrips s n a b folder (Err e) = StripsStopped s n a b folder e

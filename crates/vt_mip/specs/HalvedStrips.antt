-- Level 1 of a texture that is read by strips, each of which is read while the one before it is halved.
use Rattle.std.specs.Prelude.{◌≡◌, ℕ, ◌+◌, ◌*◌, ◌≤◌, Bool, List, take, Option, Some}
use Rattle.vt_ppm.specs.OutsideTypes.outside.File.{Ghosts as FileMeanings}
use Rattle.vt_ppm.specs.OutsideTypes.place.Place.{Place}
use Rattle.vt_ppm.specs.declared.header.Header.{Header}
use Rattle.vt_ppm.specs.Format.{depth_of}
use Rattle.vt_ppm.specs.Strips.{StripView, row_length, sample_rows, texture_of}
use Rattle.vt_ppm.specs.StripPlaces.{StripsAsked, strip_rows, strips_of}
use Rattle.vt_mip.specs.TakenRows.{HalvingView, HalvesFront}

-- how many rows a strip has
abbrev pub strip_height : ℕ
strip_height = 128

-- how many bytes the rows of a strip have
abbrev pub strip_length : Header → ℕ → ℕ
strip_length h i = strip_rows h strip_height i * row_length h

-- a texture that is read by strips: its file's bytes and places, where they are known, its name and its counts; its header; and whether its samples
-- were looked over
pub record ReaderState : Type 0 where
  pub known : Option (List ℕ)
  pub places : Option (List Place)
  pub called : List ℕ
  pub spare : ℕ
  pub faults : ℕ
  pub header : Header
  pub checked : Bool

abbrev pub reader_state : {F : Type 0} → FileMeanings F → StripView F → ReaderState
reader_state g reader = record {
  known = g.bytes reader.file;
  places = g.asked reader.file;
  called = g.name reader.file;
  spare = g.spare reader.file;
  faults = g.faults reader.file;
  header = reader.header;
  checked = reader.checked;
}

-- the file and the header are as before, and the count of faults did not fall
pub record KeepsReader (before after : ReaderState) : Type 0 where
  pub known : after.known ≡ before.known
  pub called : after.called ≡ before.called
  pub header : after.header ≡ before.header
  pub checked : after.checked ≡ before.checked
  pub faults : before.faults ≤ after.faults

-- level 1 of a texture with this header is made of the rows above strip i
pub record IsHalvedTo (h : Header) (i : ℕ) (half : HalvingView) : Type 0 where
  pub depth : half.depth ≡ depth_of h.maximum
  pub width : half.width ≡ h.width
  pub height : half.height ≡ h.height
  pub taken : half.taken ≡ i * strip_height

-- a room begins with strip i of a texture
abbrev pub HoldsStrip : Header → ℕ → List ℕ → List ℕ → Type 0
HoldsStrip h i bytes room = take (strip_length h i) room ≡ sample_rows h bytes (i * strip_height) (strip_rows h strip_height i)

-- the strips up to strip i were read, those before it are halved, and the room begins with it
pub record IsAtStrip (i : ℕ) (a b : ReaderState) (half : HalvingView) (room : List ℕ) : Type 0 where
  pub kept : KeepsReader a b
  pub read : StripsAsked a.header strip_height (i + 1) a.places b.places
  pub spare : strips_of a.header strip_height ≤ b.spare + (i + 1)
  pub to : IsHalvedTo a.header i half
  pub holds : (bytes : List ℕ) → a.known ≡ Some bytes → HoldsStrip a.header i bytes room
  pub halves : (bytes : List ℕ) → a.known ≡ Some bytes → HalvesFront (texture_of a.header bytes) half

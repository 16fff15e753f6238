-- What the calls from C do to a shared table, by the number that they answer.
use Rattle.std.specs.Prelude.{◌≡◌, ◌≢◌, ℕ, ◌*◌, ◌<◌, ◌≤◌, ◌⊎◌, Option, None, Some, IsSome, true, false, List, length}
use Rattle.vt_definitions.specs.Limits.{most_frames, most_frame_texels, most_samplers, most_versions}
use Rattle.vt_definitions.specs.Depths.{IsDepth}
use Rattle.vt_pages.specs.Shape.{Shape}
use Rattle.vt_pages.specs.Pages.{IsWithinLimits, pages_of, root_of}
use Rattle.vt_journal.specs.Changes.{newest, IsFree}
use Rattle.vt_journal.specs.Lookups.{is_mapped}
use Rattle.vt_grace.specs.Sizes.{sizes_of}
use Rattle.vt_grace.specs.Sound.{IsSound}
use Rattle.vt_grace.specs.WriterViews.{first_writer, is_out, after_look}
use Rattle.vt_grace.specs.Giving.{after_giving, after_return}
use Rattle.vt_lookup.specs.Notes.{IsNotedIn}
use Rattle.vt_texel_runs.specs.declared.points.Point.{Point}
use Rattle.vt_shared.specs.Given.{HasTileLength, IsOfItsTile}
use Rattle.vt_shared.specs.Owners.{OwnerView, HasKeptOwner, HasWrittenFrame, HasMappedNext, HasUnmappedNext, AwaitsBank, AwaitsEither}
use Rattle.vt_texel_runs.specs.Points.{IsAnswered}
use Rattle.vt_shared.specs.Readers.{SharedReaderView, left_by, IsReaderOf, IsAdmitted as IsAdmittedBy}
use Rattle.vtex_c.specs.declared.shape.VtexShape.{VtexShape}
use Rattle.vtex_c.specs.declared.table.TablePlace.{TablePlace}
use Rattle.vtex_c.specs.declared.table.VtexWaiting.{VtexWaiting}
use Rattle.vtex_c.specs.declared.reader.ReaderPlace.{ReaderPlace}
use Rattle.vtex_c.specs.Shapes.{IsShapeRefused, shape_in}

-- there is an owner before and after, and the two are related
abbrev pub Between : (OwnerView → OwnerView → Type 0) → Option OwnerView → Option OwnerView → Type 0
Between P None new = ⊥
Between P (Some a) None = ⊥
Between P (Some a) (Some b) = P a b

-- there is an owner, of which this holds
abbrev pub Holding : (OwnerView → Type 0) → Option OwnerView → Type 0
Holding P None = ⊥
Holding P (Some a) = P a

-- the depth, the frames and the readers that a table may have
pub record AreNumbers (s : Shape) (depth frames readers : ℕ) : Type 0 where
  pub depth_is : IsDepth depth
  pub some_frame : 1 ≤ frames
  pub few_frames : frames ≤ most_frames
  pub few_texels : frames * (s.tile * s.tile) ≤ most_frame_texels
  pub some_reader : 1 ≤ readers
  pub few_readers : readers ≤ most_samplers

-- a new table
pub record IsNewOwner (s : Shape) (depth frames readers : ℕ) (o : OwnerView) : Type 0 where
  pub shape : o.streamer.shape ≡ s
  pub depth_is : o.depth ≡ depth
  pub writer : o.streamer.writer ≡ first_writer (sizes_of s frames readers)

-- a table was opened: 0; else it is as it was, and the shape was refused: 1; a number was: 2; memory was: 3
pub record IsTableOpened (old : TablePlace) (s : VtexShape) (depth frames readers status : ℕ) (new : TablePlace) : Type 0 where
  pub statuses : status < 4
  pub inside : status ≡ 0 → AreNumbers (shape_in s) depth frames readers
  pub opened : status ≡ 0 → Holding (IsNewOwner (shape_in s) depth frames readers) new.inner
  pub refused : status ≡ 1 → IsShapeRefused (shape_in s)
  pub unfit : status ≡ 2 → AreNumbers (shape_in s) depth frames readers → ⊥
  pub exhausted : status ≡ 3 → IsWithinLimits (shape_in s) × AreNumbers (shape_in s) depth frames readers
  pub kept : (status ≡ 0 → ⊥) → new ≡ old

-- a page was mapped, with the words of a tile, in the next version
pub record HasMappedPage (page frame : ℕ) (tile : List ℕ) (a b : OwnerView) : Type 0 where
  pub rest : b ≡ record a { streamer = b.streamer }
  pub kept : HasKeptOwner a.streamer b.streamer
  pub written : HasWrittenFrame a.streamer frame b.streamer
  pub mapped : HasMappedNext a.streamer page frame tile b.streamer

-- a page was taken out of a frame, in the next version
pub record HasLeftFrame (page frame : ℕ) (a b : OwnerView) : Type 0 where
  pub rest : b ≡ record a { streamer = b.streamer }
  pub kept : HasKeptOwner a.streamer b.streamer
  pub written : b.streamer.writer.texels ≡ a.streamer.writer.texels
  pub unmapped : HasUnmappedNext a.streamer page frame b.streamer

-- a page was taken out of the frame that it had
pub record HasUnmappedPage (page : ℕ) (a b : OwnerView) : Type 0 where
  pub frame : ℕ
  pub was : newest a.streamer.writer.journal page ≡ Some frame
  pub left : HasLeftFrame page frame a b

-- there is no new version
pub record HasNoVersion (a b : OwnerView) : Type 0 where
  pub rest : b ≡ record a { streamer = b.streamer }
  pub kept : HasKeptOwner a.streamer b.streamer
  pub journal : b.streamer.writer.journal ≡ a.streamer.writer.journal
  pub contents : b.streamer.writer.contents ≡ a.streamer.writer.contents

-- a page can be mapped to a frame
pub record MayMap (o : OwnerView) (page frame bytes : ℕ) : Type 0 where
  pub depth_is : IsDepth o.depth
  pub page_inside : page < pages_of o.streamer.shape
  pub frame_inside : frame < length o.streamer.owners
  pub bytes_are : HasTileLength o.streamer.shape o.depth bytes
  pub unmapped : newest o.streamer.writer.journal page ≡ None
  pub free : IsFree (newest o.streamer.writer.journal) frame
  pub room : length o.streamer.writer.journal < most_versions

-- a page can be taken out of its frame
pub record MayUnmap (o : OwnerView) (page : ℕ) : Type 0 where
  pub page_inside : page < pages_of o.streamer.shape
  pub other : page ≢ root_of o.streamer.shape
  pub mapped : IsSome (newest o.streamer.writer.journal page)
  pub room : length o.streamer.writer.journal < most_versions

-- in an open table a page was mapped: 0; a number or a length is none that it may be: 2; a reader may still hold a version that needs the
-- frame or the bank, and it is told which: 6
pub record IsPut (a : OwnerView) (page frame : ℕ) (tile : List ℕ) (before : VtexWaiting) (status : ℕ) (after : VtexWaiting) (b : OwnerView) : Type 0 where
  pub statuses : (status ≡ 0) ⊎ (status ≡ 2) ⊎ (status ≡ 6)
  pub inside : status ≡ 0 → MayMap a page frame (length tile)
  pub mapped : status ≡ 0 → HasMappedPage page frame tile a b
  pub unfit : status ≡ 2 → MayMap a page frame (length tile) → ⊥
  pub same : status ≡ 2 → b ≡ a
  pub waits : status ≡ 6 → HasNoVersion a b
  pub wrote : status ≡ 6 → HasWrittenFrame a.streamer frame b.streamer
  pub awaited : status ≡ 6 → AwaitsEither a.streamer frame b.streamer after.reader after.version
  pub kept : (status ≡ 6 → ⊥) → after ≡ before

-- in an open table a page was taken out of the frame that it had: 0; a reader may still hold a version that needs the bank, and it is told
-- which: 6
pub record IsPageLeft (a : OwnerView) (page frame : ℕ) (before : VtexWaiting) (status : ℕ) (after : VtexWaiting) (b : OwnerView) : Type 0 where
  pub statuses : (status ≡ 0) ⊎ (status ≡ 6)
  pub left : status ≡ 0 → HasLeftFrame page frame a b
  pub waits : status ≡ 6 → HasNoVersion a b
  pub wrote : status ≡ 6 → b.streamer.writer.texels ≡ a.streamer.writer.texels
  pub awaited : status ≡ 6 → AwaitsBank a.streamer b.streamer after.reader after.version
  pub kept : (status ≡ 6 → ⊥) → after ≡ before

-- a page was mapped: 0; a number or a length is none that it may be: 2; there is no table: 4; a reader may still hold a version that needs
-- the frame or the bank, and it is told which: 6. No memory is taken, so none is refused
pub record IsMapped (old : TablePlace) (page frame : ℕ) (tile : List ℕ) (before : VtexWaiting) (status : ℕ) (after : VtexWaiting) (new : TablePlace) : Type 0 where
  pub statuses : (status ≡ 0) ⊎ (status ≡ 2) ⊎ (status ≡ 4) ⊎ (status ≡ 6)
  pub inside : status ≡ 0 → Holding (λ o. MayMap o page frame (length tile)) old.inner
  pub mapped : status ≡ 0 → Between (HasMappedPage page frame tile) old.inner new.inner
  pub unfit : status ≡ 2 → Holding (λ o. MayMap o page frame (length tile) → ⊥) old.inner
  pub same : status ≡ 2 → new ≡ old
  pub closed : status ≡ 4 → (old.inner ≡ None) × (new ≡ old)
  pub waits : status ≡ 6 → Between HasNoVersion old.inner new.inner
  pub wrote : status ≡ 6 → Between (λ a b. HasWrittenFrame a.streamer frame b.streamer) old.inner new.inner
  pub awaited : status ≡ 6 → Between (λ a b. AwaitsEither a.streamer frame b.streamer after.reader after.version) old.inner new.inner
  pub kept : (status ≡ 6 → ⊥) → after ≡ before

-- a page was taken out of its frame: 0; it is not mapped, or is the root: 2; there is no table: 4; a reader may still hold a version that
-- needs the bank, and it is told which: 6. No memory is taken, so none is refused
pub record IsUnmapped (old : TablePlace) (page : ℕ) (before : VtexWaiting) (status : ℕ) (after : VtexWaiting) (new : TablePlace) : Type 0 where
  pub statuses : (status ≡ 0) ⊎ (status ≡ 2) ⊎ (status ≡ 4) ⊎ (status ≡ 6)
  pub inside : status ≡ 0 → Holding (λ o. MayUnmap o page) old.inner
  pub unmapped : status ≡ 0 → Between (HasUnmappedPage page) old.inner new.inner
  pub unfit : status ≡ 2 → Holding (λ o. MayUnmap o page → ⊥) old.inner
  pub same : status ≡ 2 → new ≡ old
  pub closed : status ≡ 4 → (old.inner ≡ None) × (new ≡ old)
  pub waits : status ≡ 6 → Between HasNoVersion old.inner new.inner
  pub wrote : status ≡ 6 → Between (λ a b. b.streamer.writer.texels ≡ a.streamer.writer.texels) old.inner new.inner
  pub awaited : status ≡ 6 → Between (λ a b. AwaitsBank a.streamer b.streamer after.reader after.version) old.inner new.inner
  pub kept : (status ≡ 6 → ⊥) → after ≡ before

-- the root is mapped, and the pass of each sampler is out
pub record HasNoSeat (o : OwnerView) : Type 0 where
  pub rooted : is_mapped (newest o.streamer.writer.journal) (root_of o.streamer.shape) ≡ true
  pub all_out : (k : ℕ) → k < o.words.sizes.samplers → is_out o.streamer.writer k ≡ true

-- the root is mapped, and the pass of a sampler is not out
pub record CanAdmit (o : OwnerView) : Type 0 where
  pub rooted : is_mapped (newest o.streamer.writer.journal) (root_of o.streamer.shape) ≡ true
  pub sampler : ℕ
  pub inside : sampler < o.words.sizes.samplers
  pub absent : is_out o.streamer.writer sampler ≡ false

-- a reader was opened as a sampler whose pass was not out, and nothing else was changed
pub record HasAdmitted (r : SharedReaderView) (a b : OwnerView) : Type 0 where
  pub sampler : ℕ
  pub inside : sampler < a.words.sizes.samplers
  pub absent : is_out a.streamer.writer sampler ≡ false
  pub reader : IsAdmittedBy a sampler r
  pub given : b ≡ record a { streamer = record a.streamer { writer = after_giving (after_look a.streamer.writer sampler 0) sampler } }

-- with the reader there is
abbrev pub Admitted : Option SharedReaderView → Option OwnerView → Option OwnerView → Type 0
Admitted None old new = ⊥
Admitted (Some r) old new = Between (HasAdmitted r) old new

-- a reader was opened: 0; memory was refused: 3; there is no table: 4; the reader is open, or the root is not mapped yet: 8; all passes are
-- out: 9
pub record IsReaderOpened (old : TablePlace) (before : ReaderPlace) (status : ℕ) (new : TablePlace) (after : ReaderPlace) : Type 0 where
  pub statuses : (status ≡ 0) ⊎ (status ≡ 3) ⊎ (status ≡ 4) ⊎ (status ≡ 8) ⊎ (status ≡ 9)
  pub inside : status ≡ 0 → before.inner ≡ None
  pub rooted : status ≡ 0 → Holding (λ o. is_mapped (newest o.streamer.writer.journal) (root_of o.streamer.shape) ≡ true) old.inner
  pub early : status ≡ 8 → before.inner ≡ None
      → Holding (λ o. is_mapped (newest o.streamer.writer.journal) (root_of o.streamer.shape) ≡ false) old.inner
  pub full : status ≡ 9 → (before.inner ≡ None) × Holding HasNoSeat old.inner
  pub admitted : status ≡ 0 → Admitted after.inner old.inner new.inner
  pub refused : status ≡ 3 → (before.inner ≡ None) × Holding CanAdmit old.inner
  pub kept : (status ≡ 0 → ⊥) → (new ≡ old) × (after ≡ before)
  pub closed : status ≡ 4 → (before.inner ≡ None) × (old.inner ≡ None)

-- an open reader is one of an open table
abbrev pub HaveOneTable : Option OwnerView → Option SharedReaderView → Type 0
HaveOneTable None reader = Unit {0}
HaveOneTable (Some o) None = Unit {0}
HaveOneTable (Some o) (Some r) = IsReaderOf o r

-- if both are open, the reader is the table's
abbrev pub AreOfOneTable : TablePlace → ReaderPlace → Type 0
AreOfOneTable t r = HaveOneTable t.inner r.inner

-- what a reader noted was taken in, and all of it is true of the journal: each texel that it was answered under a hold is that of the tile
-- that was given for the page that was found, in the version that was held
pub record HasTakenBack (r : SharedReaderView) (a b : OwnerView) : Type 0 where
  pub is : b ≡ record a { streamer = record a.streamer { writer = after_return a.streamer.writer (left_by r.stand) } }
  pub sound : IsSound b.streamer.writer
  pub tiles : (version : ℕ) (p : Point) (bytes : List ℕ)
      → IsAnswered b.streamer.shape b.depth version (IsNotedIn (left_by r.stand)) p bytes
      → IsOfItsTile b.streamer.shape b.depth b.streamer.writer.journal b.streamer.writer.contents version p bytes

-- with the reader there was
abbrev pub TookBack : Option SharedReaderView → Option OwnerView → Option OwnerView → Type 0
TookBack None old new = ⊥
TookBack (Some r) old new = Between (HasTakenBack r) old new

-- a reader was taken back: 0; the table or the reader is closed: 4
pub record IsTakenBack (old : TablePlace) (before : ReaderPlace) (status : ℕ) (new : TablePlace) (after : ReaderPlace) : Type 0 where
  pub statuses : (status ≡ 0) ⊎ (status ≡ 4)
  pub taken : status ≡ 0 → TookBack before.inner old.inner new.inner
  pub gone : status ≡ 0 → after.inner ≡ None
  pub kept : (status ≡ 0 → ⊥) → (new ≡ old) × (after ≡ before)
  pub closed : status ≡ 4 → (old.inner ≡ None) ⊎ (before.inner ≡ None)

-- a table was closed: 0
pub record IsTableClosed (old : TablePlace) (status : ℕ) (new : TablePlace) : Type 0 where
  pub done : status ≡ 0
  pub closed : new.inner ≡ None

-- What a batch of changes does to a shared table, by the number that the call answers.
use Rattle.std.specs.Prelude.{◌≡◌, ℕ, zero, suc, ◌+◌, ◌*◌, ◌≤◌, ◌⊎◌, None, Some, List, length, slice_get, slice_range}
use Rattle.vt_journal.specs.Changes.{newest}
use Rattle.vt_tiles.specs.Format.{tile_length}
use Rattle.vt_shared.specs.Owners.{OwnerView, HasWrittenFrame, AwaitsBank, AwaitsEither}
use Rattle.vtex_c.specs.declared.settle.VtexStep.{VtexStep}
use Rattle.vtex_c.specs.declared.table.TablePlace.{TablePlace}
use Rattle.vtex_c.specs.declared.table.VtexWaiting.{VtexWaiting}
use Rattle.vtex_c.specs.Tables.{Between, MayMap, MayUnmap, HasMappedPage, HasLeftFrame, HasNoVersion}

-- the tile of a number, among tiles that stand one after the other
abbrev pub tile_at : OwnerView → List ℕ → ℕ → List ℕ
tile_at o tiles k =
    let bytes = tile_length o.streamer.shape o.depth in
    slice_range tiles (k * bytes) (k * bytes + bytes)

-- a step can be made: its page can be mapped to its frame, and its tile is one of those given; or its page can be taken out of its frame
pub record MayMake (tiles : List ℕ) (s : VtexStep) (o : OwnerView) : Type 0 where
  pub tile : (s.mapped ≡ 0 → ⊥) → s.tile * tile_length o.streamer.shape o.depth + tile_length o.streamer.shape o.depth ≤ length tiles
  pub put : (s.mapped ≡ 0 → ⊥) → MayMap o s.page s.frame (length (tile_at o tiles s.tile))
  pub left : s.mapped ≡ 0 → MayUnmap o s.page
  pub at : s.mapped ≡ 0 → newest o.streamer.writer.journal s.page ≡ Some s.frame

-- a step was made, in the next version
pub record HasMadeStep (tiles : List ℕ) (s : VtexStep) (a b : OwnerView) : Type 0 where
  pub put : (s.mapped ≡ 0 → ⊥) → HasMappedPage s.page s.frame (tile_at a tiles s.tile) a b
  pub left : s.mapped ≡ 0 → HasLeftFrame s.page s.frame a b

-- whom a step waits for, and that it wrote no frame but its own, and that only where it may
pub record AwaitsStep (s : VtexStep) (a b : OwnerView) (who : VtexWaiting) : Type 0 where
  pub written : (s.mapped ≡ 0 → ⊥) → HasWrittenFrame a.streamer s.frame b.streamer
  pub unwritten : s.mapped ≡ 0 → b.streamer.writer.texels ≡ a.streamer.writer.texels
  pub put : (s.mapped ≡ 0 → ⊥) → AwaitsEither a.streamer s.frame b.streamer who.reader who.version
  pub left : s.mapped ≡ 0 → AwaitsBank a.streamer b.streamer who.reader who.version

-- a step was made: 0; it is none that can be made: 2; a reader may still hold a version that is in its way, and it is told which: 6
pub record IsMade (tiles : List ℕ) (s : VtexStep) (a : OwnerView) (before : VtexWaiting) (status : ℕ) (after : VtexWaiting) (b : OwnerView) : Type 0 where
  pub statuses : (status ≡ 0) ⊎ (status ≡ 2) ⊎ (status ≡ 6)
  pub inside : status ≡ 0 → MayMake tiles s a
  pub made : status ≡ 0 → HasMadeStep tiles s a b
  pub unfit : status ≡ 2 → MayMake tiles s a → ⊥
  pub same : status ≡ 2 → b ≡ a
  pub waits : status ≡ 6 → HasNoVersion a b
  pub awaited : status ≡ 6 → AwaitsStep s a b after
  pub kept : (status ≡ 6 → ⊥) → after ≡ before

-- a page can be taken out of a frame, in which it is
pub record MayTakeOut (page frame : ℕ) (o : OwnerView) : Type 0 where
  pub may : MayUnmap o page
  pub at : newest o.streamer.writer.journal page ≡ Some frame

-- a page was taken out of a frame: 0; it cannot be, or it is not in that frame: 2; a reader may still hold a version that is in its way, and
-- it is told which: 6
pub record IsTakenOut (page frame : ℕ) (a : OwnerView) (before : VtexWaiting) (status : ℕ) (after : VtexWaiting) (b : OwnerView) : Type 0 where
  pub statuses : (status ≡ 0) ⊎ (status ≡ 2) ⊎ (status ≡ 6)
  pub inside : status ≡ 0 → MayTakeOut page frame a
  pub left : status ≡ 0 → HasLeftFrame page frame a b
  pub unfit : status ≡ 2 → MayTakeOut page frame a → ⊥
  pub same : status ≡ 2 → b ≡ a
  pub waits : status ≡ 6 → HasNoVersion a b
  pub unwritten : status ≡ 6 → b.streamer.writer.texels ≡ a.streamer.writer.texels
  pub awaited : status ≡ 6 → AwaitsBank a.streamer b.streamer after.reader after.version
  pub kept : (status ≡ 6 → ⊥) → after ≡ before

-- the first n steps could be made and were made, one after the other, each in the next version
abbrev pub AreMade : List VtexStep → List ℕ → ℕ → OwnerView → OwnerView → Type 0
AreMade steps tiles zero a b = b ≡ a
AreMade steps tiles (suc n) a b = (s : VtexStep) × (between : OwnerView) × (slice_get steps n ≡ Some s) × AreMade steps tiles n a between
    × MayMake tiles s between × HasMadeStep tiles s between b

-- after so many steps the next one is none that can be made
pub record StopsAt (steps : List VtexStep) (tiles : List ℕ) (made : ℕ) (a b : OwnerView) : Type 0 where
  pub so_far : AreMade steps tiles made a b
  pub next : VtexStep
  pub is_next : slice_get steps made ≡ Some next
  pub unfit : MayMake tiles next b → ⊥

-- after so many steps the next one waits
pub record WaitsAt (steps : List VtexStep) (tiles : List ℕ) (made : ℕ) (who : VtexWaiting) (a b : OwnerView) : Type 0 where
  pub between : OwnerView
  pub so_far : AreMade steps tiles made a between
  pub next : VtexStep
  pub is_next : slice_get steps made ≡ Some next
  pub nothing : HasNoVersion between b
  pub awaited : AwaitsStep next between b who

-- in an open table all steps were made: 0; those before the first that cannot be made: 2; those before the first that waits: 6
pub record AreMadeBy (a : OwnerView) (steps : List VtexStep) (tiles : List ℕ) (before : VtexWaiting) (status made : ℕ) (after : VtexWaiting) (b : OwnerView) : Type 0 where
  pub statuses : (status ≡ 0) ⊎ (status ≡ 2) ⊎ (status ≡ 6)
  pub all : status ≡ 0 → made ≡ length steps
  pub done : status ≡ 0 → AreMade steps tiles made a b
  pub stops : status ≡ 2 → StopsAt steps tiles made a b
  pub waits : status ≡ 6 → WaitsAt steps tiles made after a b
  pub kept : (status ≡ 6 → ⊥) → after ≡ before

-- all steps were made: 0; those before the first that cannot be made: 2; there is no table: 4; those before the first that waits, and it is
-- told for whom: 6
pub record IsSettled (old : TablePlace) (steps : List VtexStep) (tiles : List ℕ) (was : ℕ) (before : VtexWaiting) (status made : ℕ) (after : VtexWaiting) (new : TablePlace) : Type 0 where
  pub statuses : (status ≡ 0) ⊎ (status ≡ 2) ⊎ (status ≡ 4) ⊎ (status ≡ 6)
  pub all : status ≡ 0 → made ≡ length steps
  pub done : status ≡ 0 → Between (AreMade steps tiles made) old.inner new.inner
  pub stops : status ≡ 2 → Between (StopsAt steps tiles made) old.inner new.inner
  pub closed : status ≡ 4 → (old.inner ≡ None) × (new ≡ old) × (made ≡ was)
  pub waits : status ≡ 6 → Between (WaitsAt steps tiles made after) old.inner new.inner
  pub kept : (status ≡ 6 → ⊥) → after ≡ before

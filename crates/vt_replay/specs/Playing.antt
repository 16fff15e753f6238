-- The passes of a journal that is played, and what is ready for them.
use Rattle.std.specs.Prelude.{◌≡◌, ◌≢◌, ◌⊎◌, ℕ, ◌+◌, ◌*◌, ◌≤◌, List, Some, Option, length, slice_get, option_map, Result, Ok, Err}
use Rattle.vt_definitions.specs.Depths.{texel_length}
use Rattle.vt_outside.specs.declared.outside.File.{Ghosts as FileMeanings}
use Rattle.vt_pages.specs.Pages.{pages_of}
use Rattle.vt_journal.specs.declared.changes.Change.{Change}
use Rattle.vt_journal.specs.declared.changes.RowLine.{RowLine}
use Rattle.vt_journal.specs.Changes.{Table, at}
use Rattle.vt_journal.specs.JournalText.{Pass}
use Rattle.vt_tiles.specs.StoreViews.{StoreView, IsStoreIfKnown}
use Rattle.vt_outside.specs.Expectations.{ExpectedFile, with_files, IsPart}
use Rattle.vt_replay_rows.specs.Scenes.{Scene}
use Rattle.vt_replay_rows.specs.Replays.{HasPixels}
use Rattle.vt_replay_rows.specs.Following.{Follows}
use Rattle.vt_replay_rows.specs.ReplayLookups.{AreTiles, bytes_row}
use Rattle.vt_replay.specs.declared.play.Stage.{Stage}
use Rattle.vt_outside.specs.Files.{Files}
use Rattle.vt_outside.specs.declared.answers.OutsideError.{OutsideError}

-- a stage and a store are ready for pictures of a scene: the table follows the journal, and the set holds tiles of the store
pub record IsStaged {F : Type 0} (g : FileMeanings F) (scene : Scene) (changes : List Change) (stage : Stage) (store : StoreView F) : Type 0 where
  pub follows : Follows scene.shape changes stage.table.entries.items stage.table.version
  pub shape : store.shape ≡ scene.shape
  pub depth : store.depth ≡ scene.depth
  pub tiles : AreTiles scene.shape scene.depth stage.tiles.size stage.tiles.slots.items stage.tiles.owners.items stage.tiles.bytes.items
      (g.bytes store.file)
  pub samples_size : length stage.samples.items ≡ scene.path.height * (texel_length scene.depth * scene.path.width)
  pub counts_size : length stage.counts.items ≡ pages_of scene.shape
  pub store_is : IsStoreIfKnown (g.bytes store.file) scene.shape scene.depth

-- the rows of a picture that name a version show their pixels under that version's page table
abbrev pub ShowsVersion : (Table → ℕ → ℕ → List ℕ) → Scene → List Change → List RowLine → ℕ → List ℕ → Type 0
ShowsVersion pixel scene changes lines version samples = (y : ℕ) (line : RowLine) → slice_get lines y ≡ Some line → line.version ≡ version
    → HasPixels scene.depth scene.path.width (λ x. pixel (at changes version) x y) (bytes_row (texel_length scene.depth * scene.path.width) samples y)

-- and those that name another one are as before
abbrev pub KeepsOthers : Scene → List RowLine → ℕ → List ℕ → List ℕ → Type 0
KeepsOthers scene lines version before after = (y : ℕ) (line : RowLine) → slice_get lines y ≡ Some line → line.version ≢ version
    → bytes_row (texel_length scene.depth * scene.path.width) after y ≡ bytes_row (texel_length scene.depth * scene.path.width) before y

-- the files exist, or where the call was refused a part of them: some whole, and of the next at most a prefix
abbrev pub HasWritten : {T : Type 0} → List ExpectedFile → Option Files → Option Files → Result T OutsideError → Type 0
HasWritten expected before after (Ok _) = after ≡ option_map (with_files expected) before
HasWritten expected before after (Err _) = IsPart expected before after

-- the rows of a pass may be drawn: there is one for each row of a picture, and each has a version from the first to the last
pub record AreRowsWithin (height first last : ℕ) (rows : List RowLine) : Type 0 where
  pub ordered : first ≤ last
  pub count : length rows ≡ height
  pub from : (y : ℕ) (row : RowLine) → slice_get rows y ≡ Some row → first ≤ row.version
  pub to : (y : ℕ) (row : RowLine) → slice_get rows y ≡ Some row → row.version ≤ last

-- what the passes of a journal keep to: the first has picture 0, each later one the picture before or the next; each begins with a
-- version of the journal in which the pinned pages are mapped, and its rows have versions from there to the beginning of the next
pub record ArePlayed (height pinned last : ℕ) (passes : List Pass) : Type 0 where
  pub first : (p : Pass) → slice_get passes 0 ≡ Some p → p.picture ≡ 0
  pub starts : (i : ℕ) (p : Pass) → slice_get passes i ≡ Some p → pinned ≤ p.start
  pub rows : (i : ℕ) (p : Pass) → slice_get passes i ≡ Some p → AreRowsWithin height p.start last p.rows
  pub pictures : (i : ℕ) (p q : Pass) → slice_get passes i ≡ Some p → slice_get passes (i + 1) ≡ Some q
      → (q.picture ≡ p.picture) ⊎ (q.picture ≡ p.picture + 1)
  pub rise : (i : ℕ) (p q : Pass) → slice_get passes i ≡ Some p → slice_get passes (i + 1) ≡ Some q
      → AreRowsWithin height p.start q.start p.rows

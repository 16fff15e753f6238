-- A page table that follows a journal, and the store from which tiles are read.
use Rattle.std.specs.Prelude.{◌≡◌, ℕ, ◌+◌, ◌<◌, ◌≤◌, ◌++◌, List, Some, Option, All, length, slice_get, option_map, IsSome}
use Rattle.vt_definitions.specs.Limits.{most_frames}
use Rattle.vt_outside.specs.declared.place.Place.{Place}
use Rattle.vt_outside.specs.declared.outside.File.{Ghosts as FileMeanings}
use Rattle.vt_pages.specs.Shape.{Shape}
use Rattle.vt_pages.specs.Pages.{pages_of, root_of}
use Rattle.vt_journal.specs.declared.changes.Change.{Change}
use Rattle.vt_journal.specs.Changes.{at, AreInTurn, IsOneToOne}
use Rattle.vt_journal.specs.Lookups.{change_page}
use Rattle.vt_journal.specs.Kept.{entries_of, change_frame}
use Rattle.vt_tiles.specs.Places.{IsTilePlace}
use Rattle.vt_tiles.specs.StoreViews.{StoreView}
use Rattle.vt_replay_rows.specs.ReplayLookups.{AreTiles}

-- tiles were asked, and nothing else
pub record AreTilesAsked (s : Shape) (d : ℕ) (before after : Option (List Place)) : Type 0 where
  pub places : List Place
  pub are : All (IsTilePlace s d) places
  pub asked : after ≡ option_map (λ old. old ++ places) before

-- a store was read on: its tiles were asked, and all else is as before but for the faults that it met
pub record IsReadOn {F : Type 0} (g : FileMeanings F) (before after : StoreView F) : Type 0 where
  pub shape : after.shape ≡ before.shape
  pub depth : after.depth ≡ before.depth
  pub bytes : g.bytes after.file ≡ g.bytes before.file
  pub name : g.name after.file ≡ g.name before.file
  pub faults : g.faults before.file ≤ g.faults after.file
  pub tiles : AreTilesAsked before.shape before.depth (g.asked before.file) (g.asked after.file)

-- each change may come after those before it, and its page and its frame are within their bounds
pub record MayBePlayed (s : Shape) (changes : List Change) : Type 0 where
  pub in_pages : (v : ℕ) (change : Change) → slice_get changes v ≡ Some change → change_page change < pages_of s
  pub in_frames : (v : ℕ) (change : Change) → slice_get changes v ≡ Some change → change_frame change < most_frames
  pub in_turn : AreInTurn changes

-- the numbers of a page table are those of a version of a journal, in which no two pages have one frame
pub record Follows (s : Shape) (changes : List Change) (entries : List ℕ) (version : ℕ) : Type 0 where
  pub all_entries : length entries ≡ pages_of s
  pub inside : version ≤ length changes
  pub agrees : entries_of entries ≡ at changes version
  pub apart : IsOneToOne (entries_of entries)

-- a table that maps the root, a set of tiles and a store are ready for the rows of a picture: the set holds tiles of the store
pub record IsReplayReady {F : Type 0} (g : FileMeanings F) (s : Shape) (d : ℕ) (entries : List ℕ) (size : ℕ) (slots owners bytes : List ℕ)
    (store : StoreView F) : Type 0 where
  pub all_entries : length entries ≡ pages_of s
  pub root : IsSome (entries_of entries (root_of s))
  pub apart : IsOneToOne (entries_of entries)
  pub shape : store.shape ≡ s
  pub depth : store.depth ≡ d
  pub tiles : AreTiles s d size slots owners bytes (g.bytes store.file)

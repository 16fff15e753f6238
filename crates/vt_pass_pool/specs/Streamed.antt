-- What streaming a batch into a page table leaves.
use Rattle.std.specs.Prelude.{◌≡◌, ℕ, ◌*◌, ◌⊎◌, false, List, [], ◌∷◌, ◌++◌, slice_get, Contains}
use Rattle.vt_definitions.specs.Depths.{IsDepth}
use Rattle.vt_journal.specs.Shape.{Shape}
use Rattle.vt_journal.specs.JournalText.{changes_of}
use Rattle.vt_page_table.specs.Format.{tile_length}
use Rattle.vt_page_table.specs.PlanTypes.batches.Planned.{Planned}
use Rattle.vt_page_table.specs.Outcomes.{group_of}
use Rattle.vt_queue.specs.declared.items.Loaded.{Loaded}
use Rattle.vt_streaming.specs.Readings.{is_lost}
use Rattle.vt_streaming.specs.BatchRounds.{result_group, result_events, page_if}
use Rattle.vt_page_table.specs.declared.table.PageTable.{Ghosts as TableMeanings}
use Rattle.vt_page_table.specs.Fills.{AreTexelWords, FillsOne}

-- how many texels a tile of a writer's texture has
abbrev pub area : Shape → ℕ
area s = s.tile * s.tile

-- words that a page was filled with are those of a result's buffer, which was read, for the page of the result's entry
pub record IsFillOf (d texels : ℕ) (batch : List Planned) (results : List Loaded) (page : ℕ) (words : List ℕ) : Type 0 where
  pub result : Loaded
  pub among : Contains results result
  pub read : is_lost result.outcome ≡ false
  pub page_is : page_if (slice_get batch result.request.ticket) ≡ page
  pub words_of : AreTexelWords d texels result.request.buffer.elements words

-- pages are filled with the words of results, and else as before
abbrev pub FillsOf : ℕ → ℕ → List Planned → List Loaded → (ℕ → List ℕ → Type 0) → (ℕ → List ℕ → Type 0) → Type 0
FillsOf d texels batch results before after = (page : ℕ) (words : List ℕ) → after page words → before page words ⊎ IsFillOf d texels batch results page words

-- a table is changed by this writer, and its tiles have so many bytes, which are those of this depth
pub record TakesTiles {T H R W : Type 0} (table : TableMeanings T H R W) (shared : H) (d size : ℕ) (w : W) : Type 0 where
  pub of : table.is_of shared w
  pub depth_is : IsDepth d
  pub size_is : size ≡ tile_length (table.shape w) d

-- an entry's page was brought with a tile
pub record IsBroughtAs {T H R W : Type 0} (table : TableMeanings T H R W) (d : ℕ) (e : Planned) (tile : List ℕ) (v w : W) : Type 0 where
  pub shape : table.shape w ≡ table.shape v
  pub journal : table.journal w ≡ table.journal v ++ changes_of (group_of e false)
  pub filled : FillsOne d (area (table.shape v)) e.page tile (table.is_filled v) (table.is_filled w)
  pub later : table.later v w

-- a writer made the changes of one result
pub record HasApplied {T H R W : Type 0} (table : TableMeanings T H R W) (d : ℕ) (batch : List Planned) (result : Loaded) (v w : W) : Type 0 where
  pub shape : table.shape w ≡ table.shape v
  pub journal : table.journal w ≡ table.journal v ++ changes_of (result_group batch result)
  pub fills : FillsOf d (area (table.shape v)) batch (result ∷ []) (table.is_filled v) (table.is_filled w)
  pub later : table.later v w

-- a writer made the changes of the results of a batch, in the order in which they came, with fills from their buffers
pub record HasStreamedAll {T H R W : Type 0} (table : TableMeanings T H R W) (d : ℕ) (batch : List Planned) (results : List Loaded) (v w : W) : Type 0 where
  pub journal : table.journal w ≡ table.journal v ++ changes_of (result_events batch results)
  pub fills : FillsOf d (area (table.shape v)) batch results (table.is_filled v) (table.is_filled w)
  pub later : table.later v w

-- A pool for words and a streamer that its caller holds.
use Rattle.std.specs.Prelude.{◌≡◌, ℕ, false, List, Contains}
use Rattle.vt_outside.specs.declared.outside.File.{Ghosts as FileMeanings}
use Rattle.vt_pass_machine.specs.Dealing.{sampler_of}
use Rattle.vt_load.specs.Shape.{Shape}
use Rattle.vt_pass_machine.specs.Paths.{PathView}
use Rattle.vt_pass_machine.specs.Shots.{shot_row}
use Rattle.vt_pass_machine.specs.PicturesTypes.filters.Filter.{Ghosts as FilterMeanings}
use Rattle.vt_pass_machine.specs.Evidence.{AreShown}
use Rattle.vt_pass_machine.specs.JournalTypes.changes.Change.{Change}
use Rattle.vt_pass_machine.specs.SchedulesRows.{AreRowsInPlace}
use Rattle.vt_pass_machine.specs.Placing.{bytes_of}
use Rattle.vt_pass_machine.specs.Pools.{IsPool, line_length}
use Rattle.vt_loading.specs.PlanTypes.batches.Planned.{Planned}
use Rattle.vt_loading.specs.MachineTypes.crew.PassReport.{PassReport}
use Rattle.vt_loading.specs.Drawings.{drawing_of, RowRelation}
use Rattle.vt_loading.specs.Jobs.{Job}
use Rattle.vt_loading.specs.Machines.{Setup, MachineState, known_bytes}
use Rattle.vt_loading.specs.Passes.{Ran}
use Rattle.vt_loading.specs.LoaderPools.{IsLoaderPool, IsSameStream}
use Rattle.vt_word_table.specs.GraceTypes.views.Returned.{Returned}
use Rattle.vt_word_table.specs.GraceTypes.views.WriterView.{WriterView}
use Rattle.vt_word_table.specs.WriterViews.{is_out}
use Rattle.vt_word_table.specs.Values.{WordsValue}
use Rattle.vt_word_table.specs.Views.{StreamerView, IsStreamerOf}
use Rattle.vt_word_table.specs.Noted.{IsNotedBy}
use Rattle.vt_word_table.specs.Stored.{AreStored}
use Rattle.vt_word_table.specs.contracts.table.WordTablePageTable.TheImpl as word
use Rattle.vt_schedules.specs.contracts.dealt.DealtSchedule.TheImpl as dealt
use Rattle.vt_pass_machine.specs.Machines.{setup_by, state_by, Agree, IsPrepared}
use Rattle.vt_pass.specs.NewRows.{AreNewRows}
use Rattle.vt_pass.specs.WordPools.{WordStreamer, HaveNoPass}
use Rattle.vt_pass.specs.declared.pass_kit.PassKit.{PassKit}

-- the streamer of a pool with this writer in the place of the spare one
abbrev pub with_writer : {F : Type 0} → PassKit F → StreamerView → WordStreamer
with_writer k v = record k.own { writer = v }

-- the rows of the last picture, from the top
abbrev pub kit_rows : {F : Type 0} → PassKit F → List (List ℕ)
kit_rows k = bytes_of k.pool.drawn.elements

-- what a machine of words and a pool was made for
abbrev pub kit_setup : {F : Type 0} → FileMeanings F → WordsValue → PassKit F → Setup
kit_setup g words k = setup_by g words.sizes.frames k.streams k.pool

-- what a machine of words, a journal and a pool is
abbrev pub kit_state : {F : Type 0} → FileMeanings F → WordsValue → List Change → PassKit F → MachineState
kit_state g words journal k = state_by g words.sizes.frames journal k.streams k.pool

-- a pool that is whole: its parts are for one texture and for pictures of one size, no sampler has a pass, and it has all rows of the last picture
pub record IsWholeKit {F : Type 0} (g : FileMeanings F) (k : PassKit F) : Type 0 where
  pub streams : IsLoaderPool g k.streams
  pub samplers : IsPool k.pool k.pool.samplers.elements
  pub none : HaveNoPass k.pool.samplers.elements
  pub rows : AreRowsInPlace k.pool.height (line_length k.pool) k.pool.drawn.elements
  pub agree : Agree k.streams k.pool
  pub geometry : k.own.geometry ≡ k.streams.shape
  pub depth : k.own.depth ≡ k.streams.depth

-- a whole pool and the streamer of words for its texture and its samplers, by which each page was mapped with the words of its tile
pub record IsFitKit {F : Type 0} (g : FileMeanings F) (words : WordsValue) (v : StreamerView) (k : PassKit F) : Type 0 where
  pub of : IsStreamerOf words v
  pub shape : v.shape ≡ k.streams.shape
  pub samplers : words.sizes.samplers ≡ k.streams.crew.samplers
  pub stored : AreStored k.streams.shape k.streams.depth (known_bytes g k.streams.stores) v.writer.journal v.writer.contents
  pub pool : IsWholeKit g k

-- no sampler has a pass
abbrev pub AreAllIn : StreamerView → Type 0
AreAllIn v = (n : ℕ) → is_out v.writer n ≡ false

-- such a pool while no sampler has a pass
pub record IsIdleKit {F : Type 0} (g : FileMeanings F) (words : WordsValue) (v : StreamerView) (k : PassKit F) : Type 0 where
  pub fit : IsFitKit g words v k
  pub all_in : AreAllIn v

-- and it is prepared for a batch that this streamer of the words streams
pub record IsPreparedFor {F : Type 0} (g : FileMeanings F) (words : WordsValue) (v : StreamerView) (k : PassKit F) (batch : List Planned) : Type 0 where
  pub idle : IsIdleKit g words v k
  pub prepared : IsPrepared g word.ghosts dealt.ghosts words k.rows k.queues (with_writer k v) k.streams k.pool batch

-- a pool is the same but for the room of its lists and its stores, and for what its workers work with: also its picture
pub record IsSameKit {F : Type 0} (g : FileMeanings F) (before after : PassKit F) : Type 0 where
  pub streams : IsSameStream g before.streams after.streams
  pub geometry : after.pool.geometry ≡ before.pool.geometry
  pub depth : after.pool.depth ≡ before.pool.depth
  pub width : after.pool.width ≡ before.pool.width
  pub height : after.pool.height ≡ before.pool.height
  pub count : after.pool.count ≡ before.pool.count
  pub counts : after.pool.counts ≡ before.pool.counts
  pub drawn : after.pool.drawn ≡ before.pool.drawn

-- a row of a picture was drawn by a filter at a version by notes that a writer took back, and the version is one that a pass of its sampler held
pub record WasDrawnHeld {P : Type 0} (filter : FilterMeanings P) (s : Shape) (d samplers : ℕ) (w : WriterView) (path : PathView) (i y version : ℕ) (bytes : List ℕ) : Type 0 where
  pub drawn : AreShown filter.shown s d version (IsNotedBy w) (shot_row s path i y) path.width bytes
  pub by : Returned
  pub returned : Contains w.returned by
  pub dealt_to : by.sampler ≡ sampler_of y samplers
  pub held : Contains by.held version

-- what the samplers of a pool have drawn up to now over the words of a streamer
abbrev pub kit_drawn : {F P : Type 0} → FilterMeanings P → PassKit F → StreamerView → RowRelation
kit_drawn filter k v path i y version bytes = WasDrawnHeld filter k.streams.shape k.streams.depth k.streams.crew.samplers v.writer path i y version bytes

-- a pass was run by a filter over words with a pool, by their streamer before and after; each row's version is one that its sampler's pass held,
-- and the notes by which it was drawn came back in this pass
pub record KitRan {F P : Type 0} (g : FileMeanings F) (filter : FilterMeanings P) (words : WordsValue) (job : Job) (report : PassReport)
    (v : StreamerView) (k : PassKit F) (w : StreamerView) (l : PassKit F) : Type 0 where
  pub ran : Ran (drawing_of filter) (kit_drawn filter l w) job report (kit_state g words v.writer.journal k) (kit_state g words w.writer.journal l)
  pub came : AreNewRows filter l.streams.shape l.streams.depth v.writer w.writer job.scene.path job.picture report.rows.elements (kit_rows l)

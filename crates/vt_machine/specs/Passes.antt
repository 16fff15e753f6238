-- What the calls of a machine ask and leave, each as a record over its states before and after.
use Rattle.std.specs.Prelude.{◌≡◌, ℕ, ◌<◌, ◌≤◌, Some, IsSome, IfSome, List, [], ◌∷◌, ◌++◌, length, slice_get, slice_index, slice_index_or, All, Result, IfOk, OnOk, OnErr}
use Rattle.vt_outside.specs.Files.{IsPiece}
use Rattle.vt_outside.specs.declared.answers.NoMemory.{NoMemory}
use Rattle.vt_pages.specs.Shape.{Shape}
use Rattle.vt_pages.specs.Pages.{pages_of, root_of}
use Rattle.vt_pictures.specs.JournalTypes.changes.Change.TheVariants.{Map}
use Rattle.vt_pictures.specs.JournalTypes.changes.RowLine.{RowLine}
use Rattle.vt_pictures.specs.Changes.{Table, newest, IsNext}
use Rattle.vt_pictures.specs.JournalText.{changes_of}
use Rattle.vt_evict.specs.PlanTypes.batches.Planned.{Planned}
use Rattle.vt_machine.specs.declared.crew.PassReport.{PassReport}
use Rattle.vt_machine.specs.Jobs.{Job}
use Rattle.vt_machine.specs.Crews.{last_start}
use Rattle.vt_tiles.specs.Format.{tile_length, tile_start}
use Rattle.vt_machine.specs.Drawings.{Drawing, RowRelation}
use Rattle.vt_machine.specs.Outcomes.{IsBatchFor, IsOutcome}
use Rattle.vt_machine.specs.RowOrders.{AreRowsInOrder}
use Rattle.vt_machine.specs.Requests.{FileState, AreReadFor, ArePartlyReadFor}
use Rattle.vt_pictures.specs.Replays.{IsFull, AreReplayed}
use Rattle.vt_machine.specs.Machines.{Setup, MachineState}

-- the newest version of the journal maps the root
abbrev pub MapsRoot : MachineState → Type 0
MapsRoot s = IsSome (newest s.journal (root_of s.setup.shape))

-- a machine that was made: it has these files, and its journal is empty
pub record Begins (given : Setup) (files : List FileState) (s : MachineState) : Type 0 where
  pub setup : s.setup ≡ given
  pub files_are : s.files ≡ files
  pub journal : s.journal ≡ []

-- a page may be placed in a frame with a tile: both are free, and the tile is the store's, where that is known
pub record MayPlace (s : MachineState) (page frame : ℕ) (tile : List ℕ) : Type 0 where
  pub page_inside : page < pages_of s.setup.shape
  pub frame_inside : frame < s.setup.frames
  pub next : IsNext (newest s.journal) (Map page frame)
  pub early : length s.journal ≤ last_start
  pub size : length tile ≡ tile_length s.setup.shape s.setup.depth
  pub of_store : IfSome s.setup.bytes (λ b. IsPiece b (tile_start s.setup.shape s.setup.depth page) tile)

-- the machine in whose journal the page was mapped to the frame
abbrev pub with_placed : ℕ → ℕ → MachineState → MachineState
with_placed page frame s = record s { journal = s.journal ++ Map page frame ∷ [] }

-- a pass may be prepared for a batch: the root is mapped, the batch is lawful for the newest version, and it is not too long
pub record MayPrepare (s : MachineState) (batch : List Planned) : Type 0 where
  pub root : MapsRoot s
  pub lawful : IsBatchFor s.setup.shape s.setup.frames (newest s.journal) batch
  pub few : length batch ≤ s.setup.crew.batch
  pub early : length s.journal ≤ last_start

-- nothing was made or read: setup, files and journal are as before
pub record IsUntouched (before after : MachineState) : Type 0 where
  pub setup : after.setup ≡ before.setup
  pub files : after.files ≡ before.files
  pub journal : after.journal ≡ before.journal

-- only the files are left, which are as before
pub record IsSpent (before after : MachineState) : Type 0 where
  pub setup : after.setup ≡ before.setup
  pub files : after.files ≡ before.files

-- a job is one for which a machine was made: its texture and the sides of its pictures are the machine's, and its picture is the path's
pub record IsJobFor (given : Setup) (job : Job) : Type 0 where
  pub shape : job.scene.shape ≡ given.shape
  pub depth : job.scene.depth ≡ given.depth
  pub width : job.scene.path.width ≡ given.width
  pub height : job.scene.path.height ≡ given.height
  pub picture : job.picture < length job.scene.path.cameras

-- a machine's picture of a job: its rows are the replay of the pass, and each came from what the machine did; its counts are those needed
pub record IsPictured (draws : Drawing) (drawn : RowRelation) (job : Job) (lines : List RowLine)
    (s : MachineState) : Type 0 where
  pub count : length s.rows ≡ s.setup.height
  pub full : All (IsFull s.setup.depth s.setup.width) s.rows
  pub replayed : IfSome s.setup.bytes (λ b. AreReplayed s.setup.depth s.setup.width (λ m x y. draws.shows job.scene b m job.picture x y) s.journal lines s.rows)
  pub from_draws : (y : ℕ) (line : RowLine) → slice_get lines y ≡ Some line → drawn job.scene.path job.picture y line.version (slice_index_or s.rows y [])
  pub all_counts : length s.counts ≡ pages_of s.setup.shape
  pub counts_are : (p : ℕ) → p < pages_of s.setup.shape → slice_index s.counts p ≡ draws.needs job.scene job.picture p

-- a pass was run: its events are an outcome of its batch, of which the changes are in the journal, its rows are in order, each tile was
-- asked for once, and the picture is the job's
pub record Ran (draws : Drawing) (drawn : RowRelation) (job : Job) (report : PassReport)
    (before after : MachineState) : Type 0 where
  pub setup : after.setup ≡ before.setup
  pub outcome : IsOutcome job.batch report.losses.elements report.events.elements
  pub journal : after.journal ≡ before.journal ++ changes_of report.events.elements
  pub rows : AreRowsInOrder draws.dealt before.setup.crew.samplers before.setup.height (length before.journal) (length after.journal) report.rows.elements
  pub read : AreReadFor before.setup.shape before.setup.depth job.batch report.losses.elements before.files after.files
  pub picture : IsPictured draws drawn job report.rows.elements after

-- a pass could not be run to its end: only the files are left, which were asked for each tile at most once
pub record Broke (job : Job) (before after : MachineState) : Type 0 where
  pub setup : after.setup ≡ before.setup
  pub read : ArePartlyReadFor before.setup.shape before.setup.depth job.batch before.files after.files

-- how the run of a pass ends: it was run, and the machine can go on; or memory was refused, and it can only be ended
pub record EndsPassRun (draws : Drawing) (drawn : RowRelation) (idle : Type 0) (job : Job)
    (result : Result PassReport NoMemory) (before after : MachineState) : Type 0 where
  pub ran : IfOk result (λ report. Ran draws drawn job report before after)
  pub goes_on : OnOk result idle
  pub broke : OnErr result (Broke job before after)

-- a table maps the root, and each page of the chain that some pixel needs
pub record MapsNeeded (s : Shape) (m : Table) (needed : ℕ → ℕ) : Type 0 where
  pub root : IsSome (m (root_of s))
  pub needed_mapped : (p : ℕ) → p < pages_of s → 1 ≤ needed p → IsSome (m p)

-- The rows of a pass over the swapped table came in it, by what its machine says of them.
use Rattle.std.proofs.Common.{◌≡◌, ℕ, Option, None, Some, List, [], ap, ◌∙◌}
use Rattle.std.specs.Prelude.{slice_get, slice_index_or}
use Rattle.vt_pass_machine.specs.Lists.{ListView}
use Rattle.vt_pass_machine.specs.Shape.{Shape}
use Rattle.vt_pass_machine.specs.Paths.{PathView}
use Rattle.vt_pass_machine.specs.Shots.{shot_row}
use Rattle.vt_pass_machine.specs.Evidence.{AreShown}
use Rattle.vt_pass_machine.specs.Jobs.{Job}
use Rattle.vt_pass_machine.specs.JournalTypes.changes.RowLine.{RowLine}
use Rattle.vt_pass_machine.specs.PicturesTypes.filters.Filter.{Ghosts as FilterMeanings}
use Rattle.vt_pass_machine.specs.PassRowsTypes.sampler.PassSampler.{PassSampler}
use Rattle.vt_pass_machine.specs.Placing.{bytes_of}
use Rattle.vt_pass_machine.specs.Machines.{held_by, OfWriters}
use Rattle.vt_pass_machine.specs.declared.machine.Machine.{Machine}
use Rattle.vt_swap_table.specs.LogTypes.frame.FrameKey.{FrameKey}
use Rattle.vt_swap_table.specs.Readers.{ReaderView}
use Rattle.vt_swap_table.specs.Streamers.{StreamerView as SwapView}
use Rattle.vt_swap_table.specs.Entered.{WasEnteredBetween}
use Rattle.vt_swap_table.specs.SwapReaders.{OfReaders, IsSaidIf}
use Rattle.vt_swap_table.specs.SwapWriters.{HasComeHome}
use Rattle.vt_swap_table.specs.declared.table.SwapTable.{SwapTable}
use Rattle.vt_swap_table.specs.declared.table.SwapReader.{SwapReader}
use Rattle.vt_swap_table.specs.declared.table.SwapWriter.{SwapWriter}
use Rattle.vt_swap_table.specs.contracts.table.SwapTablePageTable.TheImpl as swap
use Rattle.vt_pass_machine.proofs.HeldRows.{of_held}
use Rattle.vt_pass_machines.specs.NewRows.{reader_by, IsEnteredRow, AreEnteredRows}

-- a reader of the swapped table came home
entered_row : {T S P H W B O M : Type 0} (filter : FilterMeanings P) (s : Shape) (d : ℕ) (w : SwapView)
    (before after : List (PassSampler T S H SwapReader W B O M)) (path : PathView) (i y : ℕ) (line : RowLine) (bytes : List ℕ)
    (o q home : Option ReaderView) → reader_by (slice_get before line.sampler) ≡ o → reader_by (slice_get after line.sampler) ≡ home
    → HasComeHome w q home → OfReaders (λ a b. WasEnteredBetween a b line.version) o q
    → AreShown filter.shown s d line.version (IsSaidIf q) (shot_row s path i y) path.width bytes
    → IsEnteredRow filter s d w before after path i y line bytes
entered_row filter s d w before after path i y line bytes None q home had has came entered drawn = absurd entered
entered_row filter s d w before after path i y line bytes (Some a) None home had has came entered drawn = absurd entered
entered_row filter s d w before after path i y line bytes (Some a) (Some b) home had has came entered drawn = record {
  was = a;
  had = had;
  reader = b;
  has = has ∙ came.same;
  entered = entered;
  known = came.known;
  drawn = drawn;
}

pub swapped_rows : {F S P B O M : Type 0} (filter : FilterMeanings P)
    (m p : Machine F SwapTable S P (ListView FrameKey) SwapReader SwapWriter B O M) (job : Job) (lines : List RowLine)
    → held_by swap.ghosts filter m.streamer m.pool.samplers.elements p.streamer p.pool job lines
    → OfWriters (λ (v w : SwapWriter). AreEnteredRows filter p.pool.geometry p.pool.depth w.streamer m.pool.samplers.elements p.pool.samplers.elements
    job.scene.path job.picture lines (bytes_of p.pool.drawn.elements)) m.streamer p.streamer
swapped_rows filter m p job lines held =
    of_held swap.ghosts filter m.pool.samplers.elements p.pool job lines (λ o. Unit {0})
    (λ (v w : SwapWriter). AreEnteredRows filter p.pool.geometry p.pool.depth w.streamer m.pool.samplers.elements p.pool.samplers.elements
    job.scene.path job.picture lines (bytes_of p.pool.drawn.elements)) m.streamer p.streamer tt held
    (λ u v is came y line there.
    let h = came y line there in
    entered_row filter p.pool.geometry p.pool.depth v.writer.streamer m.pool.samplers.elements p.pool.samplers.elements job.scene.path job.picture y line
    (slice_index_or (bytes_of p.pool.drawn.elements) y []) h.was.reader.reader h.reader.reader h.home.reader.reader (ap reader_by h.had)
    (ap reader_by h.has) h.came h.drew h.drawn)

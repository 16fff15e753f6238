-- What the streamer of a pass asks and leaves.
use Rattle.std.specs.Prelude.{◌≡◌, ℕ, ◌*◌, ◌^◌, ◌<◌, ◌++◌, true, false, List, length, All}
use Rattle.vt_pass_rows.specs.Depths.{IsDepth}
use Rattle.vt_pass_rows.specs.Changes.{newest}
use Rattle.vt_load.specs.Format.{tile_length}
use Rattle.vt_pass_rows.specs.PlanTypes.batches.Planned.{Planned}
use Rattle.vt_pass_rows.specs.Outcomes.{IsBatchFor}
use Rattle.vt_load.specs.Queues.{queue_view_of, queue_splits_of, IsPassOfQueue}
use Rattle.vt_load.specs.declared.queued.Queues.{Queues}
use Rattle.vt_streaming.specs.BatchRounds.{result_events, AreLossesOf}
use Rattle.vt_streaming.specs.TakenResults.{Streams}
use Rattle.vt_streaming.specs.BlankReports.{IsBlank}
use Rattle.vt_pass_rows.specs.PageTableTypes.table.PageTable.{Ghosts as TableMeanings}
use Rattle.vt_pass_pool.specs.Streamed.{HasStreamedAll}
use Rattle.vt_pass_pool.specs.declared.shared.PassStreamer.{PassStreamer}

-- the streamer may stream a batch: it is that of what is shared, its pass is one of the results, the batch is lawful for the newest version, and
-- there is room for the changes and for what is told
pub record MayStream {T H R W : Type 0} (table : TableMeanings T H R W) (shared : H) (q : Queues) (batch : List Planned) (a : PassStreamer T H R W) : Type 0 where
  pub of : table.is_of shared a.writer
  pub shape : table.shape a.writer ≡ a.geometry
  pub depth_is : IsDepth a.depth
  pub answers : IsPassOfQueue q.results a.answers
  pub lawful : IsBatchFor (table.shape a.writer) (table.frame_count a.writer) (newest (table.journal a.writer)) batch
  pub few : length batch < 2 ^ 32
  pub room : table.has_room a.writer (2 * length batch)
  pub report : IsBlank (length batch) a.report

-- the streamer has streamed a batch: it took a result for each entry; and where it was not refused memory, it published the changes of these, and told
-- of each
pub record HasStreamed {T H R W : Type 0} (table : TableMeanings T H R W) (shared : H) (q : Queues) (batch : List Planned) (a b : PassStreamer T H R W) : Type 0
  where
    pub of : table.is_of shared b.writer
    pub shape : table.shape b.writer ≡ table.shape a.writer
    pub frames : table.frame_count b.writer ≡ table.frame_count a.writer
    pub home : (k : ℕ) (r : R) → table.is_home a.writer k r → table.is_home b.writer k r
    pub geometry : b.geometry ≡ a.geometry
    pub depth : b.depth ≡ a.depth
    pub answers : IsPassOfQueue q.results b.answers
    pub splits : queue_splits_of b.answers ≡ queue_splits_of a.answers
    pub took : Streams (length batch) (queue_view_of a.answers) (queue_view_of b.answers) b.report.taken.elements b.report.results.elements
    pub all : length b.report.results.elements ≡ length batch
    pub losses : AreLossesOf batch b.report.results.elements b.report.losses.elements
    pub tiles : All (λ x. length x.request.buffer.elements ≡ tile_length (table.shape a.writer) a.depth) b.report.results.elements
    pub streamed : b.refused ≡ false → HasStreamedAll table a.depth batch b.report.results.elements a.writer b.writer
    pub events : b.refused ≡ false → b.report.events.elements ≡ a.report.events.elements ++ result_events batch b.report.results.elements
    pub refused : b.refused ≡ true → table.refuses

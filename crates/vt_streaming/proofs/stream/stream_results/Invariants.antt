use Rattle.std.proofs.Common.{◌≡◌, ◌+◌, ◌≤◌, true, false, length}
use Rattle.std.specs.Prelude.{All}
use Rattle.vt_queue.specs.Queues.{queue_view_of, queue_splits_of, IsPassOfQueue}
use Rattle.vt_requests.specs.BatchRounds.{AreLossesOf}
use Rattle.vt_requests.specs.TakenResults.{Streams}
use Rattle.vt_streaming.specs.Reports.{IsUnderWay}
use Rattle.vt_streaming.proofs.stream.stream_results.Given as goal

abbrev pub invariant-loop : goal.invariant-loop
invariant-loop g l = record {
  of : g.A.Target.is_of l.target l.writer;
  shape : g.A.Target.shape l.writer ≡ g.A.Target.shape l.initial.writer;
  frames : g.A.Target.frame_count l.writer ≡ g.A.Target.frame_count l.initial.writer;
  lasts : g.A.Target.lasts l.initial.writer l.writer;
  answers : IsPassOfQueue l.results l.answers;
  splits : queue_splits_of l.answers ≡ queue_splits_of l.initial.answers;
  few : l.done ≤ length l.batch;
  done : length l.into.results.elements ≡ l.done;
  results_room : length l.batch ≤ l.done + l.into.results.spare;
  streams : Streams (length l.batch) (queue_view_of l.initial.answers) (queue_view_of l.answers) l.into.taken.elements l.into.results.elements;
  losses : AreLossesOf l.batch l.into.results.elements l.into.losses.elements;
  tiles : All (λ x. g.A.Target.is_tile l.target (g.A.Target.shape l.initial.writer) (length x.request.buffer.elements) ≡ true) l.into.results.elements;
  under_way : l.refused ≡ false → IsUnderWay g.A.Target l.target l.batch l.initial.writer l.writer l.initial.into.events.elements l.into;
  refused : l.refused ≡ true → g.A.Target.refuses;
}

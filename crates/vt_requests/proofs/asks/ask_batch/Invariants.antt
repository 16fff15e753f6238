use Rattle.std.proofs.Common.{◌≡◌, ℕ, ◌+◌, ◌<◌, length}
use Rattle.std.specs.Prelude.{All}
use Rattle.vt_table.specs.Shape.{Shape}
use Rattle.vt_table.specs.Pages.{pages_of}
use Rattle.vt_load.specs.Format.{tile_length}
use Rattle.vt_load.specs.Queues.{queue_view_of, queue_splits_of, IsPassOfQueue}
use Rattle.vt_requests.specs.BatchRounds.{ArePut}
use Rattle.vt_requests.proofs.Asking.{HasPut}
use Rattle.vt_requests.proofs.asks.ask_batch.Given as goal

abbrev pub invariant-loop-ticket : goal.invariant-loop-ticket
invariant-loop-ticket g l = record {
  of : IsPassOfQueue l.requests l.asks × (queue_splits_of l.asks ≡ queue_splits_of l.initial.asks);
  put : HasPut l.ticket (queue_view_of l.asks);
  count : length l.buffers.elements + l.ticket ≡ length l.initial.buffers.elements;
  room : l.buffers.spare ≡ l.initial.buffers.spare + l.ticket;
  asked : (s : Shape) (d : ℕ) → All (λ e. e.page < pages_of s) l.batch → All (λ b. length b.elements ≡ tile_length s d) l.initial.buffers.elements
      → ArePut s d l.batch l.ticket (queue_view_of l.asks);
  sizes : (n : ℕ) → All (λ b. length b.elements ≡ n) l.initial.buffers.elements → All (λ b. length b.elements ≡ n) l.buffers.elements;
}

use Rattle.std.proofs.Common.{◌≡◌, ℕ, ◌+◌, ◌≤◌, length}
use Rattle.std.specs.Prelude.{All}
use Rattle.vt_requests.proofs.asks.give_back.Given as goal

abbrev pub invariant-loop-loaded : goal.invariant-loop-loaded
invariant-loop-loaded l = record {
  back : length l.results.elements ≤ l.buffers.spare;
  room : l.results.spare + length l.results.elements ≡ l.initial.results.spare + length l.initial.results.elements;
  count : length l.buffers.elements + length l.results.elements ≡ length l.initial.buffers.elements + length l.initial.results.elements;
  left : (n : ℕ) → All (λ x. length x.request.buffer.elements ≡ n) l.initial.results.elements
      → All (λ x. length x.request.buffer.elements ≡ n) l.results.elements;
  sizes : (n : ℕ) → All (λ x. length x.request.buffer.elements ≡ n) l.initial.results.elements → All (λ b. length b.elements ≡ n) l.initial.buffers.elements
      → All (λ b. length b.elements ≡ n) l.buffers.elements;
}

abbrev pub decreases-loop-loaded : goal.decreases-loop-loaded
decreases-loop-loaded l = length l.results.elements

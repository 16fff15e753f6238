use Rattle.std.proofs.Common.{◌≡◌, ℕ, ◌+◌, ◌≤◌, length}
use Rattle.std.specs.Prelude.{All}
use Rattle.vt_swap.specs.Caches.{Cache}
use Rattle.vt_swap_table.specs.SwapReaders.{IsReaderFor}
use Rattle.vt_swap_table.proofs.readers.join_readers.Given as goal

abbrev pub invariant-loop : goal.invariant-loop
invariant-loop l = record {
  number : length l.readers.elements ≡ l.counter;
  made : length l.made.elements + l.counter ≡ l.count;
  spares : length l.spares.elements + l.counter ≡ l.count;
  room : l.count ≤ l.counter + l.readers.spare;
  each : (cache : Cache) (pages : ℕ) → All (λ r. r.cache ≡ cache) l.initial.made.elements → All (λ spare. length spare.items ≡ pages) l.initial.spares.elements
      → All (λ r. r.cache ≡ cache) l.made.elements × All (λ spare. length spare.items ≡ pages) l.spares.elements
      × All (IsReaderFor cache pages) l.readers.elements;
}

use Rattle.std.proofs.Common.{◌≡◌, ◌+◌, ◌≤◌, length}
use Rattle.std.specs.Prelude.{All}
use Rattle.vt_swap_table.proofs.readers.new_spares.Given as goal

abbrev pub invariant-loop : goal.invariant-loop
invariant-loop l = record {
  number : length l.spares.elements ≡ l.counter;
  pages : All (λ spare. length spare.items ≡ l.pages) l.spares.elements;
  room : l.count ≤ l.counter + l.spares.spare;
}

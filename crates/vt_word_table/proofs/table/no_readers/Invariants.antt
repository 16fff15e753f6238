use Rattle.std.proofs.Common.{◌≡◌, ◌+◌, ◌≤◌, None, length}
use Rattle.std.specs.Prelude.{All}
use Rattle.vt_word_table.proofs.table.no_readers.Given as goal

abbrev pub invariant-loop : goal.invariant-loop
invariant-loop l = record {
  number : length l.readers.elements ≡ l.counter;
  none : All (λ r. r.pass ≡ None) l.readers.elements;
  room : l.samplers ≤ l.counter + l.readers.spare;
}

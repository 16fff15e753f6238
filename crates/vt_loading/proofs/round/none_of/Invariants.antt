use Rattle.std.proofs.Common.{◌≡◌, ◌+◌, ◌≤◌, length, false}
use Rattle.std.specs.Prelude.{All}
use Rattle.vt_loading.proofs.round.none_of.Given as goal

abbrev pub invariant-loop : goal.invariant-loop
invariant-loop l = record {
  count : length l.flags.elements ≡ l.counter;
  spare : l.entries ≤ l.counter + l.flags.spare;
  none : All (λ flag. flag ≡ false) l.flags.elements;
}

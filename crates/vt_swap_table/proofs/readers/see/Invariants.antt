use Rattle.std.proofs.Common.{ℕ, List}
use Rattle.vt_swap.specs.Readers.{HasEnteredMore}
use Rattle.vt_swap_table.proofs.readers.see.Given as goal

abbrev pub invariant-loop : goal.invariant-loop
invariant-loop g l = (more : List ℕ) × HasEnteredMore l.initial.reader l.reader more

use Rattle.std.proofs.Common.{◌≡◌}
use Rattle.vt_outside.specs.Counts.{added}
use Rattle.vt_outside.specs.MemoryFolder.{memory_files}
use Rattle.vt_walk_commands.specs.commands.Trial.{differing_together}
use Rattle.vt_walk_commands.proofs.commands.trial.count_differing.Given as goal

-- the pictures so far are counted
abbrev pub invariant-loop-picture : goal.invariant-loop-picture
invariant-loop-picture g l = l.count ≡ added 0 (differing_together (memory_files l.folder) l.chain l.path l.picture)

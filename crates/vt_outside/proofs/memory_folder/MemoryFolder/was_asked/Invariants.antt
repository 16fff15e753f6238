use Rattle.std.proofs.Common.{◌≡◌, ◌<◌, ℕ, slice_get}
use Rattle.vt_outside.specs.MemoryFolder.{asked_of}
use Rattle.vt_outside.proofs.memory_folder.MemoryFolder.was_asked.Given as goal

-- the places so far are the same
abbrev pub invariant-loop-i : goal.invariant-loop-i
invariant-loop-i l = (k : ℕ) → k < l.i → slice_get (asked_of l.self l.name) k ≡ slice_get l.places k

use Rattle.std.proofs.Common.{◌≡◌, ◌≤◌, length, take}
use Rattle.std.specs.Io.KnownBytes.{Consumes}
use Rattle.vt_outside.proofs.real_file.is_filled.Given as goal

-- what is in the buffer so far was consumed
abbrev pub invariant-loop : goal.invariant-loop
invariant-loop g l = (length l.buf ≡ length l.initial.buf) × (l.done ≤ length l.buf) × Consumes
    (g.R.Read.remaining l.initial.reader) (g.R.Read.remaining l.reader) (take l.done l.buf)

use Rattle.std.proofs.Common.{◌≡◌, ℕ, ◌+◌, ◌*◌, ◌<◌, get_or}
use Rattle.vt_tiles.proofs.texels.double_bytes.Given as goal

abbrev pub invariant-loop-i : goal.invariant-loop-i
invariant-loop-i l = record {
  first : (k : ℕ) → k < l.i → get_or l.out (2 * k) 0 ≡ get_or l.bytes k 0;
  second : (k : ℕ) → k < l.i → get_or l.out (2 * k + 1) 0 ≡ get_or l.bytes k 0;
}

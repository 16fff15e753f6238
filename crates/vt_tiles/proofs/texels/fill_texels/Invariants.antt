use Rattle.std.proofs.Common.{◌≡◌, ℕ, ◌+◌, ◌*◌, ◌<◌, get_or, length}
use Rattle.vt_tiles.proofs.texels.fill_texels.Given as goal

abbrev pub invariant-loop-x : goal.invariant-loop-x
invariant-loop-x l = (x c : ℕ) → x < l.x → c < length l.texel → get_or l.out (length l.texel * x + c) 0 ≡ get_or l.texel c 0

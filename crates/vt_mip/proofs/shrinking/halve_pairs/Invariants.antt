use Rattle.std.proofs.Common.{ℕ, List}
use Rattle.vt_mip.specs.InPlace.{IsShrunk}
use Rattle.vt_mip.proofs.shrinking.halve_pairs.Given as goal

abbrev pub invariant-loop-pair : goal.invariant-loop-pair
invariant-loop-pair l = (source : List ℕ) → IsShrunk l.sizes.depth source l.sizes.width l.sizes.height l.first l.fn.samples
    → IsShrunk l.sizes.depth source l.sizes.width l.sizes.height l.pair l.samples

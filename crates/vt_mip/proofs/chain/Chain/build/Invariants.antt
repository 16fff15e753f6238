use Rattle.std.specs.Prelude.{◌≡◌}
use Rattle.vt_mip.specs.Levels.{IsChainFront, level_at}
use Rattle.vt_mip.proofs.Fronts.{last_sides}
use Rattle.vt_mip.proofs.chain.Chain.build.Given as goal

abbrev pub invariant-loop-alloc : goal.invariant-loop-alloc
invariant-loop-alloc g l = record { front : IsChainFront l.levels.items l.tile; texture : level_at l.levels.items 0 ≡ l.fn.image }

abbrev pub decreases-loop-alloc : goal.decreases-loop-alloc
decreases-loop-alloc g l = last_sides l.levels.items

use Rattle.std.proofs.Common.{arith}
use Rattle.vt_store.proofs.StripLevels.{strips_are}
use Rattle.vt_store.proofs.StripSteps.{rows_some}
use Rattle.vt_store.proofs.strip.strip_count.Goals as goal

pub returns-clause-count : goal.returns-clause-count
returns-clause-count c = strips_are c.args.geometry.now c.height.result c.tile-side.result c.height.ensures.height c.tile-side.ensures.tile

pub returns-clause-some : goal.returns-clause-some
returns-clause-some c =
    omega (
      arith,
      rows_some c.args.geometry.now c.tile-side.ensures.limits,
      strips_are c.args.geometry.now c.height.result c.tile-side.result c.height.ensures.height c.tile-side.ensures.tile,
    )

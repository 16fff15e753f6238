use Rattle.std.proofs.Common.{arith}
use Rattle.vt_camera.specs.Paths.{camera_at}
use Rattle.vt_plain.proofs.WantedLevels.{wants_level_1}
use Rattle.vt_plain.proofs.wanted_levels.wants_level_0.Goals as goal

pub returns : goal.returns
returns c = λ _ surface picture y levels inside low.
    wants_level_1 c.args.path.now (camera_at c.args.path.now picture) surface y (omega (arith, c.height.ensures.value, c.height.ensures.low))
    (c.loop-picture.invariant picture (omega (arith, inside, c.loop-picture-test.false, c.loop-picture.auto.picture-end, c.pictures-picture-end.ensures.value)))
    levels low

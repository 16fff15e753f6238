use Rattle.std.proofs.Common.{subst, arith}
use Rattle.std.specs.List.{All}
use Rattle.std.proofs.lemmas.List.{take_all}
use Rattle.std.proofs.lemmas.List.Elements.{All-more}
use Rattle.vt_texel_runs.specs.Points.{IsPoint}
use Rattle.vt_texel_runs.proofs.points.are_points.Goals as goal

pub loop-point-preserved : goal.loop-point-preserved
loop-point-preserved c =
    let is = c.if-not-is_point.ensures in
    All-more (IsPoint c.args.geometry.now) c.args.points.now c.loop-point.point-index (record { level = 0; x = 0; y = 0 }) c.loop-point-test.true
    c.loop-point.invariant
    record {
      level = omega (arith, is.0, c.levels-levels.ensures.levels);
      column = omega (arith, is.1, c.width-width.ensures.width);
      row = omega (arith, is.2, c.height-height.ensures.height);
    }

pub returns : goal.returns
returns c =
    subst (All (IsPoint c.args.geometry.now)) (take_all c.loop-point.point-index c.args.points.now c.loop-point-test.false) c.loop-point.invariant

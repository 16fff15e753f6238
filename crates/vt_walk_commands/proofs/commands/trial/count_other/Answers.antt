use Rattle.std.proofs.Common.{sym, arith}
use Rattle.vt_walk_commands.proofs.Differing.{other-none, other-same, other-one}
use Rattle.vt_walk_commands.proofs.commands.trial.count_other.Goals as goal
use Rattle.vt_walk_commands.proofs.commands.trial.count_other.Goals.{then-a-i, else-a-i}

pub loop-i-init : goal.loop-i-init
loop-i-init c = record { counted = sym (other-none c.args.a.now c.args.b.now); few = omega arith }

pub loop-i-preserved : goal.loop-i-preserved
loop-i-preserved c =
    elim c.if-a-i.branch [
      | then-a-i w ↦ record {
        counted = omega (arith, w.count-is, c.loop-i.invariant.counted, other-one c.args.a.now c.args.b.now c.loop-i.i w.if-a-i.true);
        few = omega (arith, w.count-is, c.loop-i.invariant.few);
      }
      | else-a-i w ↦ record {
        counted = omega (arith, w.count-is, c.loop-i.invariant.counted, other-same c.args.a.now c.args.b.now c.loop-i.i w.if-a-i.false);
        few = omega (arith, w.count-is, c.loop-i.invariant.few);
      }
    ]

use Rattle.std.proofs.Common.{◌/◌, ◌%◌}
use Rattle.vt_blend.proofs.corners.corners_at.Goals as goal

pub returns-clause-value : goal.returns-clause-value
returns-clause-value c = λ i. record {
  column = c.args.a / 256;
  line = c.args.b / 256;
  next_column = c.after.ensures.value i;
  next_line = c.after-2.ensures.value i;
  across = c.args.a % 256;
  down = c.args.b % 256;
}

use Rattle.std.proofs.Common.{arith}
use Rattle.vt_ppm.proofs.Runs.{white_front_is, gap_goes_on}
use Rattle.vt_ppm.proofs.field.gap_run.Goals as goal

pub loop-comment-init : goal.loop-comment-init
loop-comment-init c = record {
  some = omega arith;
  front = white_front_is c.args.bytes.now c.white_run-at.result c.white_run-at.ensures.run;
}

pub loop-comment-preserved : goal.loop-comment-preserved
loop-comment-preserved c = record {
  some = omega (arith, c.loop-comment.invariant.some);
  front = gap_goes_on c.args.bytes.now c.split_at.result.1.now c.loop-comment.at c.comment_run-at.result c.loop-comment.invariant.front
      c.loop-comment.invariant.some c.loop-comment-test.ensures c.split_at.ensures.back c.comment_run-at.ensures.run;
}

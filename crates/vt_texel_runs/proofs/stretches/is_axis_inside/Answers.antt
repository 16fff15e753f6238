use Rattle.std.proofs.Common.{◌≡◌, arith}
use Rattle.vt_texel_runs.proofs.Evenly.{risen_out, fallen_out, fallen_inside}
use Rattle.vt_texel_runs.proofs.stretches.is_axis_inside.Goals as goal

pub returns-then-start-step : goal.returns-then-start-step
returns-then-start-step c = risen_out c.args.size c.args.start c.args.step c.args.last c.requires (omega arith) (omega arith) (omega arith)

pub returns-then-step-last : goal.returns-then-step-last
returns-then-step-last c = fallen_out c.args.size c.args.start c.args.step c.args.last c.requires (omega arith) (omega arith) (omega arith) (omega arith)

pub returns : goal.returns
returns c = fallen_inside c.args.size c.args.start c.args.step c.args.last (omega arith) (omega arith) (omega arith) (omega arith)

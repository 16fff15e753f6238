use Rattle.std.proofs.Common.{arith}
use Rattle.vt_threads.proofs.Shares.{share_few}
use Rattle.vt_threads.proofs.share.Goals as goal

pub overflow_mul-result : goal.overflow_mul-result
overflow_mul-result c = omega (arith, share_few c.args.pieces c.args.threads c.args.first c.requires.first)

pub returns : goal.returns
returns c = share_few c.args.pieces c.args.threads c.args.first c.requires.first

use Rattle.std.proofs.Common.{arith}
use Rattle.std.proofs.lemmas.Grind.{common_steps}
use Rattle.vt_feedback.proofs.RankLemmas.{ranks-more}
use Rattle.vt_feedback.proofs.ranks.add_ranks.Goals as goal

pub loop-page-preserved : goal.loop-page-preserved
loop-page-preserved c = grind (arith, common_steps, ranks-more)

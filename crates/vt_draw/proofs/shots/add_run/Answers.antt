use Rattle.vt_draw.proofs.Counts.{run-added}
use Rattle.vt_draw.proofs.shots.add_run.Goals as goal

pub returns : goal.returns
returns c = record { added = λ p. run-added c.args.page c.args.run p c.args.counts.now c.requires.page }

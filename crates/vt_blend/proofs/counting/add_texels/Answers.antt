use Rattle.vt_draw.proofs.Counts.{run-added}
use Rattle.vt_blend.proofs.counting.add_texels.Goals as goal

pub returns : goal.returns
returns c = record { added = λ p. run-added c.args.page c.args.many p c.args.counts.now c.requires.page }

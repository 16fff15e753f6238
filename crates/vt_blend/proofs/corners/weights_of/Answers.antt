use Rattle.std.proofs.Common.{refl}
use Rattle.vt_blend.specs.Corners.{weights_of}
use Rattle.vt_blend.proofs.Weighing.{weights_whole}
use Rattle.vt_blend.proofs.corners.weights_of.Goals as goal

pub returns-clause-value : goal.returns-clause-value
unfolding weights_of
returns-clause-value c = refl

pub returns-clause-whole : goal.returns-clause-whole
unfolding weights_of
returns-clause-whole c = weights_whole c.args.at.now c.requires.across c.requires.down

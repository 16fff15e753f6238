use Rattle.std.proofs.Common.{refl}
use Rattle.vt_box_filter.proofs.PartSamples.{box_small}
use Rattle.vt_box_filter.proofs.boxes.box_of.Goals as goal

pub returns-clause-value : goal.returns-clause-value
returns-clause-value g c = refl

pub returns-clause-few : goal.returns-clause-few
returns-clause-few g c =
    box_small g.row.DEPTH c.args.a c.args.b c.args.c c.args.d c.requires.depth c.requires.few_a c.requires.few_b c.requires.few_c c.requires.few_d

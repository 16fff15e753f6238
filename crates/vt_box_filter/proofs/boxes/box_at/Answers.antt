use Rattle.std.proofs.Common.{◌∙◌}
use Rattle.vt_box_filter.proofs.PartSamples.{box_same}
use Rattle.vt_box_filter.proofs.boxes.box_at.Goals as goal

pub returns-clause-value : goal.returns-clause-value
returns-clause-value g c =
    c.box_of.ensures.value
    ∙ box_same _ _ _ _ _ _ _ _ c.sample_at.ensures.value c.sample_at-2.ensures.value c.sample_at-3.ensures.value c.sample_at-4.ensures.value

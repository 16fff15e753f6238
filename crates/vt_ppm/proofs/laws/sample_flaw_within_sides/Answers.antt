use Rattle.vt_ppm.proofs.ImageLaws.{sample_flaw_within_sides}
use Rattle.vt_ppm.proofs.laws.sample_flaw_within_sides.Goals as goal

pub returns : goal.returns
returns c = sample_flaw_within_sides

use Rattle.vt_ppm.proofs.ImageLaws.{texture_within_sides}
use Rattle.vt_ppm.proofs.laws.texture_within_sides.Goals as goal

pub returns : goal.returns
returns c = texture_within_sides

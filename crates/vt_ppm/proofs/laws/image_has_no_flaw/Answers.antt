use Rattle.vt_ppm.proofs.ImageLaws.{no_image_flaw}
use Rattle.vt_ppm.proofs.laws.image_has_no_flaw.Goals as goal

pub returns : goal.returns
returns c = no_image_flaw

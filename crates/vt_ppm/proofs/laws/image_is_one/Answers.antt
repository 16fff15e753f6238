use Rattle.vt_ppm.proofs.ImageLaws.{one_image}
use Rattle.vt_ppm.proofs.laws.image_is_one.Goals as goal

pub returns : goal.returns
returns c = one_image

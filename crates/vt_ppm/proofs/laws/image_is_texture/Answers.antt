use Rattle.vt_ppm.proofs.ImageLaws.{image_is_texture}
use Rattle.vt_ppm.proofs.laws.image_is_texture.Goals as goal

pub returns : goal.returns
returns c = image_is_texture

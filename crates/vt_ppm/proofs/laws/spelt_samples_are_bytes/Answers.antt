use Rattle.vt_ppm.proofs.ImageLaws.{image_of_bytes}
use Rattle.vt_ppm.proofs.laws.spelt_samples_are_bytes.Goals as goal

pub returns : goal.returns
returns c = image_of_bytes

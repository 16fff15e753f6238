use Rattle.vt_ppm.proofs.ImageLaws.{start_is_one}
use Rattle.vt_ppm.proofs.laws.header_is_one.Goals as goal

pub returns : goal.returns
returns c = start_is_one

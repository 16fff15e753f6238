use Rattle.vt_ppm.proofs.WrittenPictures.{written_image}
use Rattle.vt_ppm.proofs.laws.written_is_read.Goals as goal

pub returns : goal.returns
returns c = written_image

use Rattle.vt_pictures.specs.NearestPlain.{mapped_is_plain}
use Rattle.vt_machine.proofs.laws.mapped_pixels_are_plain.Goals as goal

pub returns : goal.returns
returns c = λ src scene m i x y limits inside below needed. mapped_is_plain src scene m i x y limits inside below needed.needed_mapped

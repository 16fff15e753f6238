use Rattle.vt_ppm.proofs.ImageLaws.{word_is_small}
use Rattle.vt_ppm.proofs.laws.texel_words_are_small.Goals as goal

pub returns : goal.returns
returns c = word_is_small

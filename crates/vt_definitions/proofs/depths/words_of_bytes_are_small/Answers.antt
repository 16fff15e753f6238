use Rattle.vt_definitions.proofs.TexelWords.{words_small}
use Rattle.vt_definitions.proofs.depths.words_of_bytes_are_small.Goals as goal

pub returns : goal.returns
returns c = words_small

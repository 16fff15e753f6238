use Rattle.vt_definitions.proofs.TexelWords.{texel_words}
use Rattle.vt_definitions.proofs.depths.texels_are_their_words.Goals as goal

-- src/depths.rt:110:1
pub returns : goal.returns
returns c = texel_words

use Rattle.vt_mip.proofs.Small.{chain_words_are_small}
use Rattle.vt_mip.proofs.laws.chain_words_are_small.Goals as goal

pub returns : goal.returns
returns c = chain_words_are_small

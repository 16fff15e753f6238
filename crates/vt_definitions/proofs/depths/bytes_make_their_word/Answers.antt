use Rattle.vt_definitions.proofs.Words.{bytes_make_word}
use Rattle.vt_definitions.proofs.depths.bytes_make_their_word.Goals as goal

-- src/depths.rt:13:1
pub returns : goal.returns
returns c = bytes_make_word

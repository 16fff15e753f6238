use Rattle.vt_text.proofs.Spelling.{spelling_injective}
use Rattle.vt_text.proofs.numbers.spelling_is_unique.Goals as goal

pub returns : goal.returns
returns c = spelling_injective

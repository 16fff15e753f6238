use Rattle.std.proofs.Common.{rules}
use Rattle.vt_definitions.proofs.depths.narrow_word.Goals as goal

pub returns : goal.returns
returns c = search rules

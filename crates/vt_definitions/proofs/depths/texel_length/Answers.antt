use Rattle.std.proofs.Common.{refl}
use Rattle.vt_definitions.proofs.depths.texel_length.Goals as goal

pub returns-clause-value : goal.returns-clause-value
returns-clause-value c = refl

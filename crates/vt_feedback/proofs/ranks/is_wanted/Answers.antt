use Rattle.std.proofs.Common.{refl}
use Rattle.vt_feedback.proofs.ranks.is_wanted.Goals as goal

pub returns : goal.returns
returns c = refl

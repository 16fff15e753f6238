use Rattle.std.proofs.Common.{refl}
use Rattle.vt_schedules.proofs.bag.given_of.Goals as goal

pub returns : goal.returns
returns c = refl

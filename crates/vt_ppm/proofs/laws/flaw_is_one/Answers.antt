use Rattle.vt_ppm.proofs.FlawLaws.{one_flaw}
use Rattle.vt_ppm.proofs.laws.flaw_is_one.Goals as goal

pub returns : goal.returns
returns c = one_flaw

use Rattle.vt_ppm.proofs.FlawLaws.{no_header_flaw}
use Rattle.vt_ppm.proofs.laws.header_has_no_flaw.Goals as goal

pub returns : goal.returns
returns c = no_header_flaw

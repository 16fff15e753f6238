use Rattle.std.proofs.Common.{rules}
use Rattle.vt_ppm.proofs.rows.may_be_over.Goals as goal

pub returns : goal.returns
returns c = search rules

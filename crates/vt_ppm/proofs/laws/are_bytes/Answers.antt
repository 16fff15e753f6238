use Rattle.vt_ppm.proofs.SampleValues.{are_bytes}
use Rattle.vt_ppm.proofs.laws.are_bytes.Goals as goal

pub returns : goal.returns
returns c = are_bytes _ c.type_inv.bytes

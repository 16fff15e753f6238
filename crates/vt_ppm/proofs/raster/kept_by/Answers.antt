use Rattle.std.proofs.Common.{rules}
use Rattle.vt_ppm.proofs.raster.kept_by.Goals as goal

pub returns-else-this-eq1-clause-value : goal.returns-else-this-eq1-clause-value
returns-else-this-eq1-clause-value g c = search rules

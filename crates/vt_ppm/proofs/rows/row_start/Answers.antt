use Rattle.std.proofs.Common.{◌+◌, ◌*◌, ap}
use Rattle.vt_ppm.proofs.rows.row_start.Goals as goal

pub returns-clause-value : goal.returns-clause-value
returns-clause-value c = ap (λ n. c.args.header.now.raster + c.args.y * n) c.row_length.ensures.value

use Rattle.std.proofs.Common.{arith}
use Rattle.std.proofs.lemmas.Int.{ints}
use Rattle.vt_camera.proofs.PathReadingLemmas.{no_natural}
use Rattle.vt_camera.proofs.parse.natural_at.Goals as goal

pub returns-in_err-number : goal.returns-in_err-number
returns-in_err-number c =
    rw c.from_residual.ensures (no_natural c.args.line.now c.args.i c.args.most _ (omega (arith, ints, c.from.ensures)) c.in_err-number.ensures)

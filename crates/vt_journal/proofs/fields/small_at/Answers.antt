use Rattle.std.proofs.Common.{◌<◌, arith}
use Rattle.vt_journal.proofs.Reading.{number_above}
use Rattle.vt_journal.proofs.fields.small_at.Goals as goal

pub returns-then-number-from : goal.returns-then-number-from
returns-then-number-from c =
    let high : c.args.most < c.in_ok-number.number = omega (arith, c.from.ensures) in
    number_above c.args.line.now c.args.i c.args.most c.in_ok-number.number high c.in_ok-number.ensures.1

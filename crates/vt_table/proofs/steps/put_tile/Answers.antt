use Rattle.std.proofs.Common.{◌+◌, ◌-◌, length, arith}
use Rattle.vt_table.proofs.Rooms.{before_mid, behind_mid}
use Rattle.vt_table.proofs.steps.put_tile.Goals as goal

pub returns-clause-before : goal.returns-clause-before
returns-clause-before c i j low high =
    before_mid c.args.at (c.args.at + length c.args.tile.now - c.args.at) c.args.bytes.now c.copy_from_slice.new.self i j (omega arith) low high

pub returns-clause-behind : goal.returns-clause-behind
returns-clause-behind c i j past =
    behind_mid c.args.at (c.args.at + length c.args.tile.now - c.args.at) c.args.bytes.now c.copy_from_slice.new.self i j (omega arith)
    (omega (arith, c.copy_from_slice.ensures.len)) (omega arith)

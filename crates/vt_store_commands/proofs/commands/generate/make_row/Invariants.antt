use Rattle.std.proofs.Common.{◌≡◌, ◌*◌, take}
use Rattle.vt_store_commands.specs.commands.Gen.{made_row}
use Rattle.vt_store_commands.proofs.commands.generate.make_row.Given as goal

-- the texels so far were written
abbrev pub invariant-loop-x : goal.invariant-loop-x
invariant-loop-x l = take (3 * l.x) l.row ≡ made_row l.number l.y l.x

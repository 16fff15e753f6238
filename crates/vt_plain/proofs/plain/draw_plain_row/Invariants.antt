use Rattle.std.proofs.Common.{◌≡◌, ◌*◌, take}
use Rattle.vt_plain.specs.Plain.{chain_of, levels_from, row_samples}
use Rattle.vt_plain.proofs.plain.draw_plain_row.Given as goal

-- the pixels so far were written
abbrev pub invariant-loop-x : goal.invariant-loop-x
invariant-loop-x g l =
    take (3 * g.row.DEPTH * l.x) l.out ≡ row_samples g.row.DEPTH (levels_from l.skipped (chain_of l.chain.base)) l.row l.x

use Rattle.std.proofs.Common.{sym, ◌∙◌}
use Rattle.vt_tiles.proofs.Headers.{spells_wide, spells_narrow, spells_none}
use Rattle.vt_tiles.proofs.header.magic_depth.Goals as goal

pub returns-then-begins_with : goal.returns-then-begins_with
returns-then-begins_with c = spells_wide c.args.head.now (sym c.begins_with.ensures ∙ c.if-begins_with.true)

pub returns-then-begins_with-2 : goal.returns-then-begins_with-2
returns-then-begins_with-2 c =
    spells_narrow c.args.head.now (sym c.begins_with.ensures ∙ c.if-begins_with.false)
    (sym c.begins_with-else-begins_with.ensures ∙ c.if-begins_with-2.true)

pub returns-else-begins_with-2 : goal.returns-else-begins_with-2
returns-else-begins_with-2 c =
    spells_none c.args.head.now (sym c.begins_with.ensures ∙ c.if-begins_with.false)
    (sym c.begins_with-else-begins_with.ensures ∙ c.if-begins_with-2.false)

use Rattle.std.proofs.Common.{◌≡◌, sym, ◌∙◌, arith}
use Rattle.vt_texel_runs.proofs.Evenly.{along_of}
use Rattle.vt_texel_runs.proofs.stretches.end_of_page.Goals as goal

pub returns-then-across-down-clause-same : goal.returns-then-across-down-clause-same
returns-then-across-down-clause-same c =
    along_of c.args.geometry.now c.args.span.now c.shift_of.result c.args.i c.end_together-across.result c.end_together-down.result
    c.end_together-across.result (sym c.tile.ensures.tile ∙ c.shift_of.ensures.power)
    (c.end_together-across.ensures.together c.args.geometry.now.width c.requires.limits.most_width (λ j low. (c.requires.inside j low).column))
    (c.end_together-down.ensures.together c.args.geometry.now.height c.requires.limits.most_height (λ j low. (c.requires.inside j low).row))
    (omega arith) (omega arith)

pub returns-else-across-down-clause-same : goal.returns-else-across-down-clause-same
returns-else-across-down-clause-same c =
    along_of c.args.geometry.now c.args.span.now c.shift_of.result c.args.i c.end_together-across.result c.end_together-down.result
    c.end_together-down.result (sym c.tile.ensures.tile ∙ c.shift_of.ensures.power)
    (c.end_together-across.ensures.together c.args.geometry.now.width c.requires.limits.most_width (λ j low. (c.requires.inside j low).column))
    (c.end_together-down.ensures.together c.args.geometry.now.height c.requires.limits.most_height (λ j low. (c.requires.inside j low).row))
    (omega arith) (omega arith)

use Rattle.std.proofs.Common.{◌≡◌, arith}
use Rattle.vt_texel_runs.proofs.Evenly.{together_ahead, together_back}
use Rattle.vt_texel_runs.proofs.stretches.end_together.Goals as goal

pub returns-then-step-lt2147483648-clause-together : goal.returns-then-step-lt2147483648-clause-together
returns-then-step-lt2147483648-clause-together c size few inside =
    together_ahead size c.args.start c.args.step c.args.up c.args.i c.args.count c.fitting.result c.ends_of-behind.result.0 c.ends_of-behind.result.1 few (omega arith)
    (omega arith) inside c.requires.below (omega (arith, c.fitting.ensures.most)) c.ends_of-behind.ensures.behind c.ends_of-behind.ensures.before c.fitting.ensures.fit

pub returns-else-step-lt2147483648-clause-together : goal.returns-else-step-lt2147483648-clause-together
returns-else-step-lt2147483648-clause-together c size few inside =
    together_back size c.args.start c.args.step c.args.up c.args.i c.args.count c.fitting-else-step-lt2147483648.result c.ends_of-behind.result.0 few (omega arith)
    (omega arith) (omega arith) inside c.requires.below (omega (arith, c.fitting-else-step-lt2147483648.ensures.most)) c.ends_of-behind.ensures.behind
    c.fitting-else-step-lt2147483648.ensures.fit

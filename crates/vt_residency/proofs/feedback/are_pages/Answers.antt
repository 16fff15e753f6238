use Rattle.std.proofs.Common.{◌<◌, subst}
use Rattle.std.specs.List.{All}
use Rattle.std.proofs.lemmas.List.{take_all}
use Rattle.std.proofs.lemmas.List.Elements.{All-more}
use Rattle.vt_residency.specs.declared.feedback.Listed.{Listed}
use Rattle.vt_residency.proofs.feedback.are_pages.Goals as goal

pub loop-listed-preserved : goal.loop-listed-preserved
loop-listed-preserved c =
    All-more (λ (w : Listed). w.page < c.args.pages) c.args.list.now c.loop-listed.listed-index (record { page = 0; pixels = 0 }) c.loop-listed-test.true
    c.loop-listed.invariant c.if-listed-pages.false

pub returns : goal.returns
returns c =
    subst (All (λ (w : Listed). w.page < c.args.pages)) (take_all c.loop-listed.listed-index c.args.list.now c.loop-listed-test.false) c.loop-listed.invariant

use Rattle.std.proofs.Common.{◌∙◌, ap, List, fold}
use Rattle.left_right.specs.Sides.{view}
use Rattle.vt_swap_steps.specs.declared.table.Operation.{Operation}
use Rattle.vt_swap_steps.specs.Tables.{shown, applied}
use Rattle.vt_swap_steps.specs.declared.table.TableState.{TableState}
use Rattle.vt_swap_steps.proofs.Turning.{begins}
use Rattle.vt_swap_steps.proofs.Published.{when_ok, knows_published}
use Rattle.vt_swap.proofs.making.begin.Goals as goal

pub publish_as-writer-requires : goal.publish_as-writer-requires
publish_as-writer-requires g c next is =
    begins _ _ c.args.writer.desk.shown.value next
    (is ∙ ap (λ (ops : List Operation). fold applied (shown c.args.writer.desk.shown.value) ops) c.requires.none)

pub returns-clause-knows : goal.returns-clause-knows
returns-clause-knows g c =
    let rule = when_ok _ _ _ _ c.in-Ok.is c.publish_as-writer.ensures.rule in
    let values = when_ok _ _ _ _ c.in-Ok.is c.publish_as-writer.ensures.values in
    knows_published (view c.args.writer.desk.place) (view c.publish_as-writer.result.0.desk.place) c.publish_as-writer.result.0.desk.shown.value c.args.front.now rule
    (ap (λ (s : TableState). s.front)
    (values.0 ∙ ap (λ (ops : List Operation). fold applied (shown c.args.writer.desk.shown.value) ops) c.requires.none)
    ∙ c.requires.front)

use Rattle.std.proofs.Common.{◌∙◌, ap, List, [], fold}
use Rattle.vt_swap_steps.specs.declared.table.Operation.{Operation}
use Rattle.vt_swap_steps.specs.Tables.{shown, applied}
use Rattle.vt_swap_steps.proofs.Turning.{publishes}
use Rattle.vt_swap_steps.proofs.publishing.publish_waiting.Goals as goal

pub publish_as-writer-requires : goal.publish_as-writer-requires
publish_as-writer-requires g c next is =
    publishes _ _ c.args.writer.desk.shown.value next (record { change = c.args.change; front = c.args.front.now }) [] c.requires.may
    (is ∙ ap (λ (ops : List Operation). fold applied (shown c.args.writer.desk.shown.value) ops) c.requires.waits)

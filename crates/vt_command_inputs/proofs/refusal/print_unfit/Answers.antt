use Rattle.std.proofs.Common.{ℕ, List, subst}
use Rattle.vt_text.specs.Places.{place_line}
use Rattle.vt_outside.specs.Effects.{sink_effect}
use Rattle.vt_command_inputs.specs.Refusals.{Printed}
use Rattle.vt_command_inputs.proofs.refusal.print_unfit.Goals as goal

pub returns : goal.returns
returns g c =
    subst (λ (t : List ℕ). Printed (place_line t) (sink_effect g.E.Sink c.args.err.now c.print_place.new.sink)) c.three_numbers-place.ensures c.print_place.ensures

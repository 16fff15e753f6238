use Rattle.std.proofs.Common.{◌∙◌}
use Rattle.std.proofs.lemmas.List.{with_items_is}
use Rattle.vt_outside.specs.Effects.{folder_effect}
use Rattle.vt_store.specs.StripSteps.{strips_state}
use Rattle.vt_store.proofs.StripSteps.{steps_in}
use Rattle.vt_store.proofs.steps.write_next.Goals as goal

pub returns-then-is_empty-clause-step : goal.returns-then-is_empty-clause-step
returns-then-is_empty-clause-step g c =
    steps_in c.args.geometry.now c.args.strip c.args.name.now c.as_mut_slice.result.now c.args.front.now.items c.step_in_turn.new.tiles _
    (strips_state g.F.File c.args.chain.now c.args.half.now) (strips_state g.F.File c.step_in_turn.new.chain c.step_in_turn.new.half)
    (folder_effect g.D.Folder c.args.folder.now c.step_in_turn.new.folder) c.step_in_turn.result c.as_mut_slice.ensures.value
    (with_items_is c.args.front.now c.step_in_turn.new.tiles (c.step_in_turn.auto.tiles ∙ c.as_mut_slice.ensures.len)) c.step_in_turn.ensures.step

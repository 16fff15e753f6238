use Rattle.std.proofs.Common.{inl, inr, refl, arith}
use Rattle.vt_outside.specs.Effects.{folder_effect}
use Rattle.vt_store.specs.StripSteps.{strips_state}
use Rattle.vt_store.proofs.OneStep.{step_not_added, step_not_made}
use Rattle.vt_store.proofs.ReadStrips.{keeps_none}
use Rattle.vt_store.proofs.steps.step_in_turn.Goals as goal

pub returns-in_err-add_row-clause-step : goal.returns-in_err-add_row-clause-step
returns-in_err-add_row-clause-step g c =
    step_not_added _ _ _ c.args.name.now c.args.tiles.now (folder_effect g.D.Folder c.args.folder.now c.add_row.new.folder) c.from_residual.result _
    c.from_residual.ensures.1 c.in_err-add_row.ensures.added (inl refl)

pub returns-in_err-add_row-clause-kept : goal.returns-in_err-add_row-clause-kept
returns-in_err-add_row-clause-kept g c =
    record { strips = keeps_none (strips_state g.F.File c.args.chain.now c.args.half.now); spare = omega arith; asks = c.add_row.ensures.asks }

pub returns-in_err-make_strip-clause-step : goal.returns-in_err-make_strip-clause-step
returns-in_err-make_strip-clause-step g c =
    step_not_made _ _ _ c.args.name.now c.args.tiles.now (folder_effect g.D.Folder c.args.folder.now c.add_row.new.folder)
    c.from_residual-in_err-make_strip.result c.from_residual-in_err-make_strip.ensures.1
    c.in_ok-add_row.ensures.added (inr (inr c.in_err-make_strip.ensures.made.read)) c.in_err-make_strip.ensures.made.rose

pub returns-in_err-make_strip-clause-kept : goal.returns-in_err-make_strip-clause-kept
returns-in_err-make_strip-clause-kept g c = record { strips = c.make_strip.ensures.kept; spare = c.make_strip.ensures.spare; asks = c.add_row.ensures.asks }

pub returns-clause-step : goal.returns-clause-step
returns-clause-step g c = record { added = c.in_ok-add_row.ensures.added; made = c.in_ok-make_strip.ensures.made }

pub returns-clause-kept : goal.returns-clause-kept
returns-clause-kept g c = record { strips = c.make_strip.ensures.kept; spare = c.make_strip.ensures.spare; asks = c.add_row.ensures.asks }

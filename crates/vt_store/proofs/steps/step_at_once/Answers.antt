use Rattle.std.proofs.Common.{inr, subst}
use Rattle.vt_outside.specs.Effects.{folder_effect}
use Rattle.vt_store.specs.Steps.{AddsBytes}
use Rattle.vt_store.specs.StripSteps.{ReadsStrip, strips_state}
use Rattle.vt_store.proofs.OneStep.{step_not_added, step_not_made}
use Rattle.vt_store.proofs.StripSteps.{read_of, there_after}
use Rattle.vt_store.proofs.steps.step_at_once.Goals as goal

pub strip_size-size-requires-clause-shape : goal.strip_size-size-requires-clause-shape
strip_size-size-requires-clause-shape g c = c.requires.next.shape

pub strip_size-size-requires-clause-strip : goal.strip_size-size-requires-clause-strip
strip_size-size-requires-clause-strip g c = c.requires.next.inside

pub returns-in_err-added-clause-step : goal.returns-in_err-added-clause-step
returns-in_err-added-clause-step g c =
    let both = c.add_and_read-read in
    let folder = folder_effect g.D.Folder c.args.folder.now both.new.folder in
    let a = strips_state g.F.File c.args.chain.now c.args.half.now in
    let b = strips_state g.F.File both.new.chain both.new.half in
    step_not_added _ _ _ c.args.name.now c.args.tiles.now folder c.from_residual.result _ c.from_residual.ensures.1
    (subst (λ r. AddsBytes c.args.name.now c.args.tiles.now folder r) c.in_err-added.was both.ensures.added)
    (read_of c.args.geometry.now c.args.strip a b both.new.rows both.result.0 both.ensures.read)

pub returns-in_err-read-clause-step : goal.returns-in_err-read-clause-step
returns-in_err-read-clause-step g c =
    let both = c.add_and_read-read in
    let folder = folder_effect g.D.Folder c.args.folder.now both.new.folder in
    let a = strips_state g.F.File c.args.chain.now c.args.half.now in
    let b = strips_state g.F.File both.new.chain both.new.half in
    let lost = subst (λ r. ReadsStrip c.args.geometry.now c.args.strip a b both.new.rows r) c.in_err-read.was both.ensures.read in
    step_not_made _ _ _ c.args.name.now c.args.tiles.now folder c.from_residual-in_err-read.result c.from_residual-in_err-read.ensures.1
    (subst (λ r. AddsBytes c.args.name.now c.args.tiles.now folder r) c.in_ok-added.was both.ensures.added) (inr (inr lost.read)) lost.rose

pub finish_strip-requires-clause-there : goal.finish_strip-requires-clause-there
finish_strip-requires-clause-there g c κs within =
    let both = c.add_and_read-read in
    let a = strips_state g.F.File c.args.chain.now c.args.half.now in
    let b = strips_state g.F.File both.new.chain both.new.half in
    there_after c.args.geometry.now c.args.strip a b both.new.rows c.requires.next both.ensures.kept
    (subst (λ r. ReadsStrip c.args.geometry.now c.args.strip a b both.new.rows r) c.in_ok-read.was both.ensures.read)

pub returns-clause-step : goal.returns-clause-step
returns-clause-step g c =
    let both = c.add_and_read-read in
    let folder = folder_effect g.D.Folder c.args.folder.now both.new.folder in
    let a = strips_state g.F.File c.args.chain.now c.args.half.now in
    let b = strips_state g.F.File both.new.chain both.new.half in
    record {
      added = subst (λ r. AddsBytes c.args.name.now c.args.tiles.now folder r) c.in_ok-added.was both.ensures.added;
      made = c.finish_strip.ensures.made a c.requires.next both.ensures.kept
          (subst (λ r. ReadsStrip c.args.geometry.now c.args.strip a b both.new.rows r) c.in_ok-read.was both.ensures.read);
    }

pub returns-in_err-added-clause-kept : goal.returns-in_err-added-clause-kept
returns-in_err-added-clause-kept g c =
    let both = c.add_and_read-read.ensures in
    record { strips = both.kept; spare = both.spare; asks = both.asks }

pub returns-in_err-read-clause-kept : goal.returns-in_err-read-clause-kept
returns-in_err-read-clause-kept g c =
    let both = c.add_and_read-read.ensures in
    record { strips = both.kept; spare = both.spare; asks = both.asks }

pub returns-clause-kept : goal.returns-clause-kept
returns-clause-kept g c =
    let both = c.add_and_read-read.ensures in
    record { strips = both.kept; spare = both.spare; asks = both.asks }

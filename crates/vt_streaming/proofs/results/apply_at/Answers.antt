use Rattle.std.proofs.Common.{Option, ◌++◌, ◌∙◌, ap, sym, subst}
use Rattle.std.proofs.lemmas.Option.{slice_get-get_or}
use Rattle.vt_requests.specs.PlanTypes.batches.Planned.{Planned}
use Rattle.vt_requests.specs.Readings.{is_lost}
use Rattle.vt_requests.specs.Outcomes.{group_if}
use Rattle.vt_streaming.specs.Applied.{IsAppliedAt}
use Rattle.vt_streaming.specs.Reports.{HasChanged}
use Rattle.vt_streaming.proofs.results.apply_at.Goals as goal

pub apply_result-requires-clause-entry : goal.apply_result-requires-clause-entry
apply_result-requires-clause-entry g c =
    c.requires.entry _ (slice_get-get_or c.args.batch.now c.args.loaded.now.request.ticket _ c.requires.inside)

pub returns-clause-changed : goal.returns-clause-changed
returns-clause-changed g c fine =
    subst (λ (o : Option Planned). HasChanged g.A.Target (group_if o (is_lost c.args.loaded.now.outcome)) c.args.writer.now c.apply_result.new.writer)
    (sym (slice_get-get_or c.args.batch.now c.args.loaded.now.request.ticket _ c.requires.inside)) (c.apply_result.ensures.changed fine)

pub returns-clause-applied : goal.returns-clause-applied
returns-clause-applied g c fine =
    let x = c.args.loaded.now in
    subst (λ (o : Option Planned). IsAppliedAt (g.A.Target.has_put c.args.target.now) o (is_lost x.outcome) x.request.buffer.elements c.args.writer.now
    c.apply_result.new.writer)
    (sym (slice_get-get_or c.args.batch.now x.request.ticket _ c.requires.inside)) (c.apply_result.ensures.applied fine)

pub returns-clause-events : goal.returns-clause-events
returns-clause-events g c fine =
    c.apply_result.ensures.events fine
    ∙ ap (λ (o : Option Planned). c.args.events.now.elements ++ group_if o (is_lost c.args.loaded.now.outcome))
    (sym (slice_get-get_or c.args.batch.now c.args.loaded.now.request.ticket _ c.requires.inside))

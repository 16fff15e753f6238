use Rattle.std.proofs.Common.{slice_index}
use Rattle.std.proofs.lemmas.Result.{on_ok_weaker}
use Rattle.vt_residency.proofs.Passing.{passed}
use Rattle.vt_residency.proofs.residency.Residency.pass_counts.Goals as goal

pub returns-clause-passed : goal.returns-clause-passed
returns-clause-passed c =
    on_ok_weaker c.plan_on.result
    (passed c.args.self.now c.self.inside.geometry c.self.inside.recency c.self.inside.loads.elements c.self.inside.came.elements
    (slice_index c.add_counts.new.tally.counts.items) (slice_index c.args.pixels.now) c.args.q c.plan_on.new.recency c.plan_on.new.loads.elements c.self.view_is c.self.invariant.shape
    (λ p below. c.add_counts.ensures.counts p)) c.plan_on.ensures.planned

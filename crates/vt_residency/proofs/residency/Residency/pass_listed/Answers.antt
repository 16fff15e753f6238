use Rattle.std.proofs.Common.{slice_index, arith}
use Rattle.std.proofs.lemmas.Result.{on_ok_weaker}
use Rattle.vt_residency.specs.Tallies.{pixels_of}
use Rattle.vt_residency.proofs.Passing.{passed}
use Rattle.vt_residency.proofs.residency.Residency.pass_listed.Goals as goal

pub returns-clause-passed : goal.returns-clause-passed
returns-clause-passed c =
    on_ok_weaker c.plan_on.result
    (passed c.args.self.now c.self.inside.geometry c.self.inside.recency c.self.inside.loads.elements c.self.inside.came.elements
    (slice_index c.add_listed.new.tally.counts.items) (pixels_of c.args.list.now) c.args.q c.plan_on.new.recency c.plan_on.new.loads.elements c.self.view_is c.self.invariant.shape
    (λ p below. c.add_listed.ensures.counts p (omega (arith, c.page_count-pages.ensures.pages, below)))) c.plan_on.ensures.planned

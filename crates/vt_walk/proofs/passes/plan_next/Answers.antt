use Rattle.std.proofs.Common.{slice_index, ap, ◌∙◌}
use Rattle.vt_plan.specs.Views.{RecencyView}
use Rattle.vt_walk.proofs.Running.{wants_inside}
use Rattle.vt_walk.proofs.passes.plan_next.Goals as goal

pub touch-requires : goal.touch-requires
touch-requires c = wants_inside c.settle.new.self.shape c.args.geometry.now (slice_index c.args.counts.now) c.in_ok-wants.wants.elements
    (c.in_ok-settle.ensures.settled.shape ∙ c.requires.shape) c.in_ok-wants.ensures

pub needed-requires : goal.needed-requires
needed-requires c = wants_inside c.touch.new.self.shape c.args.geometry.now (slice_index c.args.counts.now) c.in_ok-wants.wants.elements
    (ap (λ (v : RecencyView). v.shape) c.touch.ensures.touched ∙ c.in_ok-settle.ensures.settled.shape ∙ c.requires.shape) c.in_ok-wants.ensures

pub plan-requires : goal.plan-requires
plan-requires c = wants_inside c.touch.new.self.shape c.args.geometry.now (slice_index c.args.counts.now) c.in_ok-wants.wants.elements
    (ap (λ (v : RecencyView). v.shape) c.touch.ensures.touched ∙ c.in_ok-settle.ensures.settled.shape ∙ c.requires.shape) c.in_ok-wants.ensures

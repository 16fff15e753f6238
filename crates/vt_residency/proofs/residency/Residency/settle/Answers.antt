use Rattle.std.proofs.Common.{◌≡◌, ℕ, Bool, List, length, map, sym, ap, subst, ◌∙◌, arith}
use Rattle.vt_evict.specs.PlanTypes.batches.Planned.{Planned}
use Rattle.vt_plan.specs.Views.{RecencyView}
use Rattle.vt_evict.specs.Batches.{IsLawfulBatch, IsSettledByReads, read_entries}
use Rattle.vt_residency.specs.Residencies.{has_not_come, is_over}
use Rattle.vt_residency.proofs.UnderWay.{lawful_left, few_read}
use Rattle.vt_residency.proofs.residency.Residency.settle.Goals as goal

pub invariant_of-result : goal.invariant_of-result
invariant_of-result c =
    let v : RecencyView = c.self.inside.recency in
    let w : RecencyView = c.settle.new.self in
    let loads : List Planned = c.self.inside.loads.elements in
    let states : List ℕ = c.args.states.now in
    let settled : IsSettledByReads v (read_entries loads (map has_not_come states)) w =
    subst (λ (m : List Bool). IsSettledByReads v (read_entries loads m) w) c.in_ok-not_come.ensures c.in_ok-settle.ensures.settled in
    let left : c.in_ok-left.left.elements ≡ read_entries loads (map is_over states) =
    c.in_ok-left.ensures ∙ ap (read_entries loads) c.in_ok-over.ensures in
    record {
      shape = settled.shape ∙ c.self.invariant.shape;
      table = c.in_ok-settle.ensures.table;
      tally = c.self.invariant.tally;
      none = c.self.invariant.none;
      lawful = subst (IsLawfulBatch w) (sym left) (lawful_left v w loads states c.self.invariant.lawful settled);
      few_loads = omega (arith, ap length left, few_read loads (map is_over states), c.self.invariant.few_loads);
      few_came = omega (arith, ap length c.in_ok-came.ensures, few_read loads c.in_ok-not_come.not_come.elements, c.self.invariant.few_loads);
    }

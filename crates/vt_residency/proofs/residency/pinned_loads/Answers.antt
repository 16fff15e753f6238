use Rattle.std.proofs.Common.{ℕ, ◌+◌, ◌-◌, None, List, ◌++◌, [], ◌∷◌, sym, ap, ◌∙◌, arith}
use Rattle.std.proofs.lemmas.List.FromFn.{map-range_with_len_more}
use Rattle.vt_evict.specs.PlanTypes.batches.Planned.{Planned}
use Rattle.vt_residency.specs.Residencies.{pinned_at}
use Rattle.vt_residency.proofs.residency.pinned_loads.Goals as goal

pub loop-i-preserved : goal.loop-i-preserved
loop-i-preserved c =
    let i : ℕ = c.loop-i.i in
    let s = c.args.geometry.now in
    record {
      came = c.push.ensures.elements
          ∙ ap (λ (n : ℕ). let e : Planned = record { page = n - c.args.pinned + i; frame = i; victim = None } in c.loop-i.came.elements ++ e ∷ [])
          c.page_count.ensures.pages
          ∙ ap (λ (l : List Planned). l ++ pinned_at s c.args.pinned i ∷ []) c.loop-i.invariant.came
          ∙ sym (map-range_with_len_more (pinned_at s c.args.pinned) 0 i i (omega arith));
      room = omega (arith, c.push.ensures.spare, c.loop-i.invariant.room);
    }

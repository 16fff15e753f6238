use Rattle.std.proofs.Common.{[], ◌∷◌, ◌++◌, length, append_assoc, ap, ◌∙◌}
use Rattle.vt_pass_pool.specs.Placing.{IsRowInside}
use Rattle.vt_pass_pool.proofs.Placement.{placed_one, popped_all}
use Rattle.vt_pass_pool.proofs.placing.place_rows.Goals as goal

pub loop-job-preserved : goal.loop-job-preserved
loop-job-preserved c =
    let i = c.loop-job.invariant in
    let was = c.in-Some.ensures.some in
    let rest = c.pop.new.self.elements in
    let job = c.in-Some.job in
    let all = popped_all (IsRowInside (length c.args.drawn.now)) c.loop-job.kept.elements rest job was i.inside in
    record {
      inside = all.0;
      placed = (
        job ∷ i.placed.0,
        i.placed.1 ∙ ap (λ l. l ++ i.placed.0) was ∙ append_assoc rest (job ∷ []) i.placed.0,
        placed_one i.placed.0 c.args.drawn.now c.loop-job.drawn job i.placed.2 all.1,
      );
    }

use Rattle.std.proofs.Common.{◌≡◌, ◌<◌, ◌++◌, ℕ, List, length, take, get_or, ap, sym, ◌∙◌, append_assoc, arith}
use Rattle.std.specs.List.{concat}
use Rattle.std.proofs.lemmas.List.{take_more}
use Rattle.std.proofs.lemmas.Option.{get_or_from_slice_get}
use Rattle.vt_pass_rows.specs.SchedulesTypes.bag.RowJob.{RowJob}
use Rattle.vt_pass_pool.specs.Placing.{bytes_of}
use Rattle.vt_pass_pool.proofs.Placement.{bytes_push}
use Rattle.vt_pass_pool.proofs.pool.PassPool.picture_into.Goals as goal

pub loop-y-preserved : goal.loop-y-preserved
loop-y-preserved g c =
    let jobs = c.args.self.now.drawn.elements in
    let y = c.loop-y.y in
    let job = c.at.result.now in
    let inside : y < length jobs = (let a = c.loop-y-test.true in let b = c.len-y-end.ensures in omega (arith, a, b)) in
    let here : get_or jobs y job ≡ job = get_or_from_slice_get jobs y job job c.at.ensures in
    record {
      joined = c.in_ok-extend_from_slice.ensures.items
          ∙ (λ i. c.loop-y.invariant.joined i ++ (c.slice.ensures ∙ ap (λ (j : RowJob). j.samples.elements) (sym here)) i)
          ∙ append_assoc c.args.out.now.items (concat (bytes_of (take y jobs))) (get_or jobs y job).samples.elements
          ∙ sym (ap (λ (l : List ℕ). c.args.out.now.items ++ l)
          (ap (λ (l : List RowJob). concat (bytes_of l)) (take_more jobs y job inside) ∙ bytes_push (take y jobs) (get_or jobs y job)));
    }

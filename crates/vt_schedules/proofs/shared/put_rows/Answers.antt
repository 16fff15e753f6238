use Rattle.std.proofs.Common.{◌≡◌, ◌≢◌, ◌<◌, [], ◌∷◌, ◌++◌, length, get_or, ap, ◌∙◌, rules, arith}
use Rattle.std.proofs.lemmas.List.{get_or-set_other}
use Rattle.vt_queue.specs.declared.views.PassView.{PassView}
use Rattle.vt_queue.specs.PassViews.{pass_view, all_shares}
use Rattle.vt_queue.specs.Orders.{placed}
use Rattle.std.specs.Prelude.{take}
use Rattle.vt_schedules.specs.declared.bag.RowJob.{RowJob}
use Rattle.vt_schedules.proofs.Taking.{put_more}
use Rattle.vt_schedules.proofs.shared.put_rows.Goals as goal

pub loop-y-preserved : goal.loop-y-preserved
loop-y-preserved g c =
    let jobs = c.args.drawn.now in
    let y = c.loop-y.y in
    let old = c.index-drawn-y.result in
    let inv = c.loop-y.invariant in
    let inside : y < length jobs = search rules in
    let job : c.replace-job.result ≡ get_or jobs y old = c.replace-job.ensures.value ∙ inv.rest y old (omega arith) inside in
    let front = placed 0 (take y jobs) in
    record {
      of = c.put_row.ensures.of;
      view = c.in_ok-put_row.ensures.put
          ∙ ap (λ (v : PassView RowJob). pass_view all_shares v.known (v.put ++ (length v.put, c.replace-job.result) ∷ []) v.took) inv.view
          ∙ ap (λ (x : RowJob). pass_view all_shares [] (front ++ (length front, x) ∷ []) []) job
          ∙ ap (λ l. pass_view all_shares [] l []) (put_more jobs y old inside);
      rest = λ k d low within.
          let other : k ≢ y = (λ same. absurd (omega (arith, same, low))) in
          get_or-set_other c.loop-y.drawn y k c.replace-job.new.dest d other ∙ inv.rest k d (omega (arith, low)) within;
    }

use Rattle.std.proofs.Common.{◌≡◌, ◌≤◌, ◌∷◌, [], ◌++◌, List, length, get_or, sym, ap, ◌∙◌, subst, arith}
use Rattle.vt_schedules.specs.declared.bag.RowJob.{RowJob}
use Rattle.vt_schedules.proofs.Keepers.{refilled}
use Rattle.vt_schedules.specs.declared.dealt.DealtWay.{DealtWay}
use Rattle.vt_schedules.specs.Dealt.{AreOwnInPlace, AreDealt}
use Rattle.vt_schedules.proofs.Dealing.{dealt_more}
use Rattle.vt_schedules.proofs.dealt.DealtSchedule.deal.Goals as goal

pub returns-clause-of : goal.returns-clause-of
returns-clause-of c height line owns dealt number =
    let value = c.slice_mut.ensures.value in
    let low : length owns ≤ c.args.number = omega (arith, number) in
    (c.in_ok-jobs.ensures.rows height line (ap length value ∙ dealt.number)
    (subst (AreOwnInPlace height line c.args.samplers c.args.number) (sym value) (dealt.left c.args.number low))).1

pub returns-clause-dealt : goal.returns-clause-dealt
returns-clause-dealt c height line owns dealt number =
    let old = c.args.home.now.jobs.elements in
    let new = c.deal_rows.new.jobs in
    let value = c.slice_mut.ensures.value in
    let low : length owns ≤ c.args.number = omega (arith, number) in
    let same : length new ≡ length old = c.in_ok-jobs.ensures.number ∙ ap length value in
    let own : DealtWay = record { jobs = c.in_ok-jobs.jobs } in
    let rows = c.in_ok-jobs.ensures.rows height line (ap length value ∙ dealt.number)
    (subst (AreOwnInPlace height line c.args.samplers c.args.number) (sym value) (dealt.left c.args.number low)) in
    subst (AreDealt height line c.args.samplers (owns ++ own ∷ [])) (sym (refilled old new same))
    (dealt_more height line c.args.samplers c.args.number owns old new dealt number same
    (λ y d other. c.in_ok-jobs.ensures.others y d other ∙ ap (λ (l : List RowJob). get_or l y d) value) own rows.0)

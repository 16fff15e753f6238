use Rattle.std.proofs.Common.{◌≡◌, ◌≢◌, ◌<◌, List, [], ◌∷◌, ◌++◌, length, get_or, take, sym, ap, ◌∙◌, rules, arith}
use Rattle.std.proofs.lemmas.List.{get_or-set_other, take_more}
use Rattle.vt_schedules.specs.declared.bag.RowJob.{RowJob}
use Rattle.vt_schedules.proofs.dealt.take_rows.Goals as goal

pub loop-y-preserved : goal.loop-y-preserved
loop-y-preserved c =
    let jobs = c.args.jobs.now in
    let y = c.loop-y.y in
    let old = c.index-jobs-y.result in
    let inv = c.loop-y.invariant in
    let inside : y < length jobs = search rules in
    let job : c.replace.result ≡ get_or jobs y old = c.replace.ensures.value ∙ inv.rest y old (omega arith) inside in
    record {
      list = c.push.ensures.elements ∙ ap (λ (l : List RowJob). l ++ c.replace.result ∷ []) inv.list
          ∙ ap (λ (x : RowJob). take y jobs ++ x ∷ []) job ∙ sym (take_more jobs y old inside);
      room = (let a = inv.room in let b = c.push.ensures.spare in omega (arith, a, b));
      rest = λ k d low within.
          let other : k ≢ y = (λ same. absurd (omega (arith, same, low))) in
          get_or-set_other c.loop-y.jobs y k c.replace.new.dest d other ∙ inv.rest k d (omega (arith, low)) within;
    }

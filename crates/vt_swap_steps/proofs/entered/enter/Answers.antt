use Rattle.std.proofs.Common.{sym, ap, ◌∙◌, subst}
use mathlib.Core.List.{IsPrefix}
use Rattle.vt_swap_steps.specs.declared.table.NewestTable.{NewestTable}
use Rattle.vt_swap_steps.specs.declared.rule.Known.{Known}
use Rattle.vt_swap_steps.proofs.entered.enter.Goals as goal

pub returns-clause-entered : goal.returns-clause-entered
returns-clause-entered g c =
    let k = c.requires.log in
    let e = c.enter_when_there-reading.ensures in
    let mine = k.one_log ∙ sym c.learn.ensures.cache in
    record {
      knows = record { other = k.other; has = ap (λ (v : Known). v.front) e.after ∙ k.has; one_log = mine };
      one_log = e.before.one_log k.other k.has ∙ mine;
      table = e.table;
      seen = subst (λ (t : NewestTable). IsPrefix t.front.seen.log c.learn.new.mine.seen.log) c.get.ensures c.learn.ensures.other;
    }

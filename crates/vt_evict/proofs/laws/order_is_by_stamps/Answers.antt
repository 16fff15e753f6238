use Rattle.vt_evict.proofs.StampLemmas.{order_by_stamps, still_before}
use Rattle.vt_evict.proofs.laws.order_is_by_stamps.Goals as goal

pub returns : goal.returns
returns c = record {
  order = λ v old new x table order before lawful settled inside after.
      order_by_stamps v old new x (record {
        table = table;
        order = order;
        before = before;
        lawful = lawful;
        settled = settled;
        inside = inside;
        after = after;
      });
  before = λ old new x before after. still_before old new x after before;
}

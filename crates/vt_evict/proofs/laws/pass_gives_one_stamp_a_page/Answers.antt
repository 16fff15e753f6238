use Rattle.vt_evict.proofs.StampRules.{after_some, after_one}
use Rattle.vt_evict.proofs.laws.pass_gives_one_stamp_a_page.Goals as goal

pub returns : goal.returns
returns c = record { some = after_some; one = after_one }

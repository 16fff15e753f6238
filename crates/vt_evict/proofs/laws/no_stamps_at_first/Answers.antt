use Rattle.vt_evict.proofs.StampRules.{none_before, first_by_stamps}
use Rattle.vt_evict.proofs.laws.no_stamps_at_first.Goals as goal

pub returns : goal.returns
returns c = record { none = none_before; first = first_by_stamps }

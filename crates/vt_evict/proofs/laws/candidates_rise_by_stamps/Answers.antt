use Rattle.vt_evict.proofs.StampRules.{candidates_are, candidates_stamped, candidates_rise}
use Rattle.vt_evict.proofs.laws.candidates_rise_by_stamps.Goals as goal

pub returns : goal.returns
returns c = record { exact = candidates_are; stamped = candidates_stamped; rising = candidates_rise }

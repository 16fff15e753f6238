use Rattle.vt_swap_log.proofs.Lawful.{lawful_front}
use Rattle.vt_swap_log.proofs.fronts.is_lawful.Goals as goal

pub returns : goal.returns
returns c = lawful_front _ _ c.learn.ensures.3 c.learn.ensures.4.1.lawful

use Rattle.vt_swap_steps.proofs.Turning.{enters}
use Rattle.vt_swap_steps.proofs.entered.enter_when_there.Goals as goal

pub enter_as-requires : goal.enter_as-requires
enter_as-requires g c x = enters _ _ x

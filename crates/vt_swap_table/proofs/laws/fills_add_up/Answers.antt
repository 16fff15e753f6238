use Rattle.vt_swap_table.proofs.Filling.{fills_grow}
use Rattle.vt_swap_table.proofs.laws.fills_add_up.Goals as goal

pub returns : goal.returns
returns c = fills_grow

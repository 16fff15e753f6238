use Rattle.vt_machine.proofs.AnyOrder.{any_order}
use Rattle.vt_machine.proofs.laws.order_leaves_one_table.Goals as goal

pub returns : goal.returns
returns c = any_order

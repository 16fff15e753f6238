use Rattle.std.proofs.Common.{arith}
use Rattle.vtex_c.proofs.Leaving.{not_the_root, leaves}
use Rattle.vtex_c.proofs.table.frame_to_leave.Goals as goal

pub returns-then-page-page_count : goal.returns-then-page-page_count
returns-then-page-page_count c = not_the_root c.args.owner.now c.geometry.result.now c.page_count.result c.args.page c.page_count.ensures.limits c.geometry.ensures c.page_count.ensures.pages (omega arith)

pub returns : goal.returns
returns c = leaves c.args.owner.now c.geometry.result.now c.page_count.result c.args.page c.frame_of.result c.page_count.ensures.limits c.geometry.ensures c.page_count.ensures.pages (omega arith) (omega arith) c.frame_of.ensures

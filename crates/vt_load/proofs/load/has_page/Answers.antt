use Rattle.std.proofs.Common.{nat_lt, ap}
use Rattle.vt_load.proofs.load.has_page.Goals as goal

pub returns : goal.returns
returns c = ap (λ n. nat_lt c.args.page n) c.page_count.ensures.pages

use Rattle.std.proofs.Common.{arith}
use Rattle.vt_evict.proofs.OrderLemmas.{keys-put}
use Rattle.vt_evict.proofs.orders.insert.Goals as goal

pub returns-clause-ok : goal.returns-clause-ok
returns-clause-ok c =
    rw c.in_ok-put.ensures.entries (keys-put c.args.page tt c.args.order.now c.requires.new
    (omega (arith, c.len-length.ensures.len, c.len-length.ensures.fits, c.requires.no_bound)))

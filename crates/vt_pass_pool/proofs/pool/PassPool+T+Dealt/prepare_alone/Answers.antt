use Rattle.std.proofs.Common.{sym, subst, arith}
use Rattle.vt_pass_rows.specs.SchedulesRows.{AreRowsInPlace}
use Rattle.vt_pass_pool.specs.Pools.{line_length}
use Rattle.vt_pass_pool.proofs.Readying.{so_too}
use Rattle.vt_pass_pool.proofs.pool.PassPool+T+Dealt.prepare_alone.Goals as goal

pub returns-clause-dealt : goal.returns-clause-dealt
returns-clause-dealt g c = so_too c.deal.result c.deal.ensures.dealt (λ dealt w idle.
    let k = c.args.self.now in
    dealt w idle.home (c.in_ok-begin_alone.ensures.dealt k.height (line_length k) k.count idle.pool.some
    (subst (λ l. AreRowsInPlace k.height (line_length k) l) (sym c.slice_mut.ensures.value) c.in_ok-fresh.ensures))
    (let r = c.in_ok-reserve.ensures.room in let n = c.from.ensures in omega (arith, r, n)))

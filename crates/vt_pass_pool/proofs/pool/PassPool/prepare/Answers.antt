use Rattle.std.proofs.Common.{length, sym, ap, ◌∙◌, subst, arith}
use Rattle.vt_streaming.proofs.Refilled.{refilled}
use Rattle.vt_pass_rows.specs.SchedulesRows.{AreRowsInPlace}
use Rattle.vt_pass_pool.specs.Pools.{line_length}
use Rattle.vt_pass_pool.proofs.Readying.{so_too, begun_pool}
use Rattle.vt_pass_pool.proofs.pool.PassPool.prepare.Goals as goal

pub begin-requires : goal.begin-requires
begin-requires g c =
    let n = ap length c.slice_mut.ensures.value in
    let m = c.requires.idle.1.pool.number in
    let h = c.requires.idle.1.pool.sides.height_high in
    omega (arith, n, m, h)

pub deal-requires-clause-pool : goal.deal-requires-clause-pool
deal-requires-clause-pool g c =
    let k = c.args.self.now in
    let rows_back = refilled k.drawn.elements c.begin.new.jobs (c.begin.ensures.number ∙ ap length c.slice_mut.ensures.value) in
    begun_pool g.T.PageTable g.S.Schedule k c.requires.idle.1.pool c.begin.new.home _ _
    (ap length rows_back ∙ c.begin.ensures.number ∙ ap length c.slice_mut.ensures.value) (c.reserve.ensures.elements ∙ c.requires.idle.1.pool.no_lines)

pub returns-clause-dealt : goal.returns-clause-dealt
returns-clause-dealt g c = so_too c.deal.result c.deal.ensures.dealt (λ dealt w idle.
    let k = c.args.self.now in
    dealt w idle.home (c.in_ok-begin.ensures.dealt k.height (line_length k) k.count idle.pool.some
    (subst (λ l. AreRowsInPlace k.height (line_length k) l) (sym c.slice_mut.ensures.value) idle.rows))
    (let r = c.in_ok-reserve.ensures.room in let n = c.from.ensures in omega (arith, r, n)))

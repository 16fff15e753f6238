use Rattle.std.proofs.Common.{◌≡◌, length, sym, ap, ◌∙◌, subst, arith}
use Rattle.std.specs.Prelude.{All}
use Rattle.std.specs.List.{refill}
use Rattle.vt_streaming.proofs.Refilled.{refilled}
use Rattle.vt_pass_rows.specs.Scenes.{scene_of}
use Rattle.vt_pass_rows.specs.SchedulesRows.{AreAllRows}
use Rattle.vt_pass_pool.specs.Placing.{ArePlaced, all_kept, rows_kept, counted_by, lines_of}
use Rattle.vt_pass_pool.specs.Pools.{AreSameSamplers, AreAtHome, line_length, ways_of}
use Rattle.vt_pass_pool.specs.Returned.{AreOut, AreClosed, HaveTaken, MayCount}
use Rattle.vt_pass_pool.proofs.Drawn.{are_out, pages_are, have_taken, may_count}
use Rattle.vt_pass_pool.proofs.Finishing.{has_ended}
use Rattle.vt_pass_pool.proofs.pool.PassPool.finish.Goals as goal

pub end_rows-requires-clause-rows : goal.end_rows-requires-clause-rows
end_rows-requires-clause-rows g c = c.requires.may.2.ready.home_is

pub end_rows-requires-clause-out : goal.end_rows-requires-clause-out
end_rows-requires-clause-out g c =
    let k = c.args.self.now in
    let scene = scene_of c.args._shot.now.geometry.now c.args._shot.now.depth c.args._shot.now.path.now in
    let table = g.T.PageTable in
    let schedule = g.S.Schedule in
    let shared = c.args.table.now in
    let rows = c.args.rows.now in
    let base = are_out table schedule g.P.Filter shared rows k scene c.args._shot.now.picture c.requires.may.0 c.requires.may.1 c.args.samplers.elements
    c.requires.may.2 in
    subst (λ l. AreOut table schedule shared rows (table.shape c.args.writer.now) (length c.slice_mut-2.result.now) l) (sym c.slice_mut.ensures.value)
    (subst (λ l. AreOut table schedule shared rows (table.shape c.args.writer.now) (length l) c.args.samplers.elements) (sym c.slice_mut-2.ensures.value)
    (subst (λ s. AreOut table schedule shared rows s (length k.drawn.elements) c.args.samplers.elements) (sym c.requires.shape) base))

pub end_rows-requires-clause-pages : goal.end_rows-requires-clause-pages
end_rows-requires-clause-pages g c =
    let k = c.args.self.now in
    let scene = scene_of c.args._shot.now.geometry.now c.args._shot.now.depth c.args._shot.now.path.now in
    subst (λ l. All (λ a. length a.counts.items ≡ length k.counts) l) (sym c.slice_mut.ensures.value)
    (pages_are g.T.PageTable g.S.Schedule g.P.Filter c.args.table.now c.args.rows.now k scene c.args._shot.now.picture c.requires.may.0 c.requires.may.1
    c.args.samplers.elements c.requires.may.2)

pub end_rows-requires-clause-taken : goal.end_rows-requires-clause-taken
end_rows-requires-clause-taken g c =
    let k = c.args.self.now in
    let scene = scene_of c.args._shot.now.geometry.now c.args._shot.now.depth c.args._shot.now.path.now in
    let before = c.requires.may.1 in (
      k.height,
      line_length k,
      k.count,
      ways_of before,
      subst (λ l. HaveTaken g.S.Schedule c.args.rows.now k.height (line_length k) k.count (ways_of before) k.home l) (sym c.slice_mut.ensures.value)
          (have_taken g.T.PageTable g.S.Schedule g.P.Filter c.args.table.now c.args.rows.now k scene c.args._shot.now.picture c.requires.may.0 before
          c.args.samplers.elements c.requires.may.2 g.met.S.Schedule.none_gathered),
      subst (λ l. MayCount g.S.Schedule.DEALT k.height k.count (length k.counts) l) (sym c.slice_mut.ensures.value)
          (may_count g.T.PageTable g.S.Schedule g.P.Filter c.args.table.now c.args.rows.now k scene c.args._shot.now.picture c.requires.may.0 before
          c.args.samplers.elements c.requires.may.2 g.met.P.Filter.wants_few),
    )

pub end_rows-requires-clause-none : goal.end_rows-requires-clause-none
end_rows-requires-clause-none g c = c.requires.may.2.ready.pool.no_lines

pub end_rows-requires-clause-room : goal.end_rows-requires-clause-room
end_rows-requires-clause-room g c =
    let ready = c.requires.may.2.ready in
    let n = ap length c.slice_mut-2.ensures.value in
    let m = ready.pool.number in
    let r = ready.line_room in
    omega (arith, n, m, r)

pub returns-clause-ended : goal.returns-clause-ended
returns-clause-ended g c = λ start before h.
    let k = c.args.self.now in
    let scene = scene_of c.args._shot.now.geometry.now c.args._shot.now.depth c.args._shot.now.path.now in
    let table = g.T.PageTable in
    let e = c.end_rows.ensures in
    let o = c.in_ok-end_rows.ensures in
    let cs = c.args.samplers.elements in
    let ds = c.end_rows.new.samplers in
    let lent = c.slice_mut.ensures.value in
    let back = refilled cs ds (e.same.count ∙ ap length lent) in
    let jobs = k.drawn.elements in
    let js = c.end_rows.new.drawn in
    let rows_back = refilled jobs js (e.placed.number ∙ ap length c.slice_mut-2.ensures.value) in
    let v = c.args.writer.now in
    let w = c.end_rows.new.writer in
    let taken = have_taken table g.S.Schedule g.P.Filter c.args.table.now c.args.rows.now k scene c.args._shot.now.picture start before cs h
    g.met.S.Schedule.none_gathered in
    let all = e.all k.height (line_length k) k.count (ways_of before)
    (subst (λ l. HaveTaken g.S.Schedule c.args.rows.now k.height (line_length k) k.count (ways_of before) k.home l) (sym lent) taken) in
    has_ended table g.S.Schedule g.P.Filter c.args.table.now c.args.rows.now k scene c.args._shot.now.picture start before cs h v w
    g.met.T.PageTable.drew_since _ _ c.end_rows.new.home _ c.end_rows.new.counts _
    (subst (λ l. AreSameSamplers l (refill (length cs) cs ds)) lent (subst (λ l. AreSameSamplers c.slice_mut.result.now l) (sym back) e.same))
    (subst (AreAtHome table w) (sym back) e.home)
    (subst (λ l. AreClosed table v w l (refill (length cs) cs ds)) lent (subst (λ l. AreClosed table v w c.slice_mut.result.now l) (sym back) o.closed))
    (subst (λ l. AreAllRows g.S.Schedule.DEALT k.height k.count (rows_kept l)) lent all)
    (subst (λ l. ArePlaced (all_kept l) jobs (refill (length jobs) jobs js)) lent
    (subst (λ l. ArePlaced (all_kept c.slice_mut.result.now) l (refill (length jobs) jobs js)) c.slice_mut-2.ensures.value
    (subst (λ l. ArePlaced (all_kept c.slice_mut.result.now) c.slice_mut-2.result.now l) (sym rows_back) e.placed)))
    (ap (λ l. l.elements) c.replace.ensures.value ∙ o.lines ∙ ap lines_of (sym rows_back))
    e.counts (λ p inside. o.sums p inside ∙ ap (λ l. counted_by l p) lent) (ap (λ l. l.elements) c.replace.ensures.after ∙ c.new.ensures)

use Rattle.std.proofs.Common.{◌+◌, ◌<◌, subst, ap, arith, rules}
use Rattle.std.specs.Prelude.{slice_index}
use Rattle.vt_pass_pool.proofs.Placement.{counted_more, counted_below}
use Rattle.vt_pass_pool.proofs.placing.count_together.Goals as goal

pub merge-requires-clause-room : goal.merge-requires-clause-room
merge-requires-clause-room g c = λ p inside.
    let samplers = c.args.samplers.now in
    let i = c.loop-i.i in
    let below = subst (λ n. p < n) c.loop-i.invariant.same inside in
    let more = counted_more samplers i p c.index-samplers-i.result (search rules) in
    let most = counted_below samplers (i + 1) p in
    let all = c.requires.room p below in
    let sums = c.loop-i.invariant.sums p below in
    let here = ap (λ l. slice_index l p) c.as_slice.ensures.value in
    omega (arith, more, most, all, sums, here)

use Rattle.std.proofs.Common.{length, refl, ◌∙◌, arith}
use Rattle.vt_pass_pool.specs.Placing.{rows_kept}
use Rattle.vt_pass_pool.specs.Pools.{ways_of}
use Rattle.vt_pass_pool.proofs.SameSamplers.{same_pages, same_counted}
use Rattle.vt_pass_pool.proofs.ending.end_rows.Goals as goal

pub returns-then-not-known-clause-all : goal.returns-then-not-known-clause-all
returns-then-not-known-clause-all g c = λ height line count firsts t. c.finish.ensures height line count firsts (ways_of c.args.samplers.now)
    (rows_kept c.args.samplers.now) (c.return_samplers-known.ensures.gathered height line count firsts t.gathered) t.took t.ended

pub count_together-requires-clause-lengths : goal.count_together-requires-clause-lengths
count_together-requires-clause-lengths g c =
    same_pages (length c.args.counts.now) c.args.samplers.now c.return_samplers-known.new.samplers c.return_samplers-known.ensures.same c.requires.pages

pub count_together-requires-clause-room : goal.count_together-requires-clause-room
count_together-requires-clause-room g c = λ p inside.
    let t = c.requires.taken.4 in
    let all = c.finish.ensures c.requires.taken.0 c.requires.taken.1 c.requires.taken.2 c.requires.taken.3 (ways_of c.args.samplers.now)
    (rows_kept c.args.samplers.now)
    (c.return_samplers-known.ensures.gathered c.requires.taken.0 c.requires.taken.1 c.requires.taken.2 c.requires.taken.3 t.gathered) t.took t.ended in
    let low = c.requires.taken.5 all p inside in
    let same = same_counted p c.args.samplers.now c.return_samplers-known.new.samplers c.return_samplers-known.ensures.same in
    omega (arith, low, same)

pub returns-clause-closed : goal.returns-clause-closed
returns-clause-closed g c = c.if-not-known.ensures.closed refl

pub returns-clause-all : goal.returns-clause-all
returns-clause-all g c = λ height line count firsts t. c.finish.ensures height line count firsts (ways_of c.args.samplers.now)
    (rows_kept c.args.samplers.now) (c.return_samplers-known.ensures.gathered height line count firsts t.gathered) t.took t.ended

pub returns-clause-sums : goal.returns-clause-sums
returns-clause-sums g c = λ p inside. c.count_together.ensures.sums p inside
    ∙ same_counted p c.args.samplers.now c.return_samplers-known.new.samplers c.return_samplers-known.ensures.same

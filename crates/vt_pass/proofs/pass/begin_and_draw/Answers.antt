use Rattle.std.proofs.Common.{ap, arith}
use Rattle.vt_loading.specs.Jobs.{job_of}
use Rattle.vt_pass.specs.WordPools.{WordPool}
use Rattle.vt_pass.proofs.WordsRan.{begun_job, begun_ran, begun_rows}
use Rattle.vt_pass.proofs.pass.begin_and_draw.Goals as goal

pub begin_pass-requires-clause-prepared : goal.begin_pass-requires-clause-prepared
begin_pass-requires-clause-prepared g c = (c.args.rows.now, c.requires.prepared)

pub draw_and_stream-requires-clause-ready : goal.draw_and_stream-requires-clause-ready
draw_and_stream-requires-clause-ready g c κs within = c.begin_pass.ensures.ready c.args.rows.now c.requires.prepared

pub draw_and_stream-requires-clause-job : goal.draw_and_stream-requires-clause-job
draw_and_stream-requires-clause-job g c κs within =
    begun_job g.F.File c.args.words.now c.args.own.now c.begin_pass.new.own c.args.streams.now c.begin_pass.new.streams c.args.pool.now
    c.begin_pass.new.pool c.begin_pass.ensures.still c.begin_pass.ensures.streams c.begin_pass.ensures.pool
    (job_of c.args.shot.now c.args.batch.now.elements) c.requires.job

pub returns-clause-ran : goal.returns-clause-ran
returns-clause-ran g c =
    begun_ran g.F.File c.args.words.now c.args.own.now c.begin_pass.new.own c.args.streams.now c.begin_pass.new.streams c.args.pool.now
    c.begin_pass.new.pool c.begin_pass.ensures.still c.begin_pass.ensures.streams c.begin_pass.ensures.pool g.P.Filter
    (job_of c.args.shot.now c.args.batch.now.elements) c.draw_and_stream.result c.draw_and_stream.new.own c.draw_and_stream.new.streams
    c.draw_and_stream.new.pool c.draw_and_stream.ensures.run.ran

pub returns-clause-came : goal.returns-clause-came
returns-clause-came g c =
    begun_rows g.F.File c.args.words.now c.args.own.now c.begin_pass.new.own c.args.streams.now c.begin_pass.new.streams c.args.pool.now
    c.begin_pass.new.pool c.begin_pass.ensures.still c.begin_pass.ensures.streams c.begin_pass.ensures.pool g.P.Filter
    (job_of c.args.shot.now c.args.batch.now.elements) c.args.rows.now c.args.queues.now c.args.batch.now.elements
    c.draw_and_stream.result.rows.elements c.draw_and_stream.new.own c.draw_and_stream.new.pool
    (c.begin_pass.ensures.ready c.args.rows.now c.requires.prepared)
    (let n = c.draw_and_stream.ensures.run.ran.rows.of_picture.count in let low = c.requires.prepared.samplers.pool.sides.height_low in
    let same = ap (λ (x : WordPool). x.height) c.begin_pass.ensures.pool in omega (arith, n, low, same))
    c.draw_and_stream.ensures.run.held

pub returns-clause-idle : goal.returns-clause-idle
returns-clause-idle g c = c.draw_and_stream.ensures.run.idle

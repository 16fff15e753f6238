use Rattle.std.proofs.Common.{Some, refl}
use Rattle.vt_loading.specs.Jobs.{job_of}
use Rattle.vt_word_table.specs.WordLaws.{taken_none, came_within}
use Rattle.vt_word_table.specs.contracts.table.WordTablePageTable.TheImpl as word
use Rattle.vt_schedules.specs.contracts.dealt.DealtSchedule.TheImpl as dealt
use Rattle.vt_pass_machine.proofs.Finishing.{finished}
use Rattle.vt_pass.proofs.Running.{told}
use Rattle.vt_pass.proofs.pass.end_lent.Goals as goal

pub returns-clause-run : goal.returns-clause-run
returns-clause-run g c = λ b may.
    let job = job_of c.args.shot.now c.args.batch.now.elements in
    let e = c.end_pass.ensures in
    let u = c.end_pass.new.own in
    told g.F.File g.P.Filter c.args.words.now job _ b.streamer.writer b.samplers u c.end_pass.new.streams c.end_pass.new.pool c.end_pass.result
    c.in-Ok.report c.in-Ok.is
    (finished g.F.File word.ghosts dealt.ghosts g.P.Filter g.met.P.Filter.is_under c.args.words.now c.args.rows.now c.args.queues.now c.args.streams.now
    c.end_pass.new.streams c.args.pool.now c.end_pass.new.pool job c.args.loaders.elements c.args.samplers.elements c.args.own.now u b may
    (e.ended b may) e.still e.own e.pool
    (λ t v w x number r h one two came. came_within t.writer v.writer w.writer x.writer number r.pass one two came) (λ v. taken_none v.writer)
    (Some u) refl c.end_pass.result e.went_on e.drawn e.sound e.events e.losses)

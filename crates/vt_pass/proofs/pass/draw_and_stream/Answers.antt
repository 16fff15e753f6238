use Rattle.std.proofs.Common.{List, refl, sym, subst, ap, rules, length}
use Rattle.std.specs.Prelude.{All}
use Rattle.std.specs.List.{refill}
use Rattle.vt_load.specs.declared.queued.Queues.{Queues}
use Rattle.vt_load.specs.QueuedLoaders.{QueuedView, MayLoad, HasLoaded}
use Rattle.vt_loading.specs.PlanTypes.batches.Planned.{Planned}
use Rattle.vt_loading.specs.All.{AllReady}
use Rattle.vt_loading.specs.Jobs.{Job, job_of}
use Rattle.vt_loading.proofs.Refilled.{same_number, all_did}
use Rattle.vt_pass_machine.specs.Samplers.{row_length}
use Rattle.vt_pass_machine.specs.PassSamplers.{MayDraw, HasDrawn}
use Rattle.vt_pass_machine.specs.PassTasks.{MayStream, HasStreamed}
use Rattle.vt_word_table.specs.Values.{WordsValue}
use Rattle.vt_word_table.specs.contracts.table.WordTablePageTable.TheImpl as word
use Rattle.vt_schedules.specs.contracts.dealt.DealtSchedule.TheImpl as dealt
use Rattle.vt_pass_machine.proofs.Idle.{may_draw, may_stream}
use Rattle.vt_pass.specs.WordPools.{WordSampler, WordStreamer}
use Rattle.vt_pass.proofs.Running.{back, ran_back}
use Rattle.vt_pass.proofs.pass.draw_and_stream.Goals as goal

pub detach-loaders-requires : goal.detach-loaders-requires
detach-loaders-requires g c = record { asked = (c.args.own.now.report, c.args.batch.now.elements, c.requires.ready.asked) }

pub work_together-requires-clause-loaders : goal.work_together-requires-clause-loaders
work_together-requires-clause-loaders g c κs within =
    subst (λ (l : List (QueuedView _)). All (λ x. MayLoad g.F.File c.args.queues.now x) l) (sym c.slice_mut.ensures.value) c.detach-loaders.ensures.may

pub work_together-requires-clause-samplers : goal.work_together-requires-clause-samplers
work_together-requires-clause-samplers g c κs within =
    let job = job_of c.args.shot.now c.args.batch.now.elements in
    let words = c.args.words.now in
    let rows = c.args.rows.now in
    subst (AllReady (MayDraw word.ghosts dealt.ghosts words rows job.scene.shape job.scene.depth job.scene.path job.picture)) (sym c.slice_mut-2.ensures.value)
    (subst (AllReady (MayDraw word.ghosts dealt.ghosts words rows job.scene.shape job.scene.depth job.scene.path job.picture))
    (sym c.detach-samplers.ensures.out)
    (may_draw g.F.File word.ghosts dealt.ghosts words rows c.args.queues.now c.args.own.now c.args.streams.now c.args.pool.now job
    (length c.args.own.now.writer.owners) c.requires.ready c.requires.job))

pub work_together-requires-clause-streamer : goal.work_together-requires-clause-streamer
work_together-requires-clause-streamer g c κs within =
    subst (λ (l : List Planned). MayStream word.ghosts c.args.words.now c.args.queues.now l (record c.args.own.now { answers = c.detach-loaders.new.answers }))
    (sym c.slice.ensures)
    (may_stream g.F.File word.ghosts dealt.ghosts c.args.words.now c.args.rows.now c.args.queues.now c.args.own.now c.args.streams.now c.args.pool.now
    (record c.args.own.now { answers = c.detach-loaders.new.answers }) c.args.batch.now.elements c.requires.ready refl
    c.detach-loaders.ensures.out.dealt.passes.results)

pub end_lent-requires : goal.end_lent-requires
end_lent-requires g c =
    let with = λ (batch : List Planned). job_of c.args.shot.now batch in
    let job = with c.args.batch.now.elements in
    let words = c.args.words.now in
    let rows = c.args.rows.now in
    let q = c.args.queues.now in
    let own = c.args.own.now in
    let b : WordStreamer = record own { answers = c.detach-loaders.new.answers } in
    let a = c.detach-loaders.result.elements in
    let e = c.detach-samplers.result.elements in
    let ws = c.work_together.new.loaders in
    let us = c.work_together.new.samplers in
    let d = c.work_together.new.streamer in
    let number = same_number a _ ws c.slice_mut.ensures.value (search rules) in
    let number_f = same_number e _ us c.slice_mut-2.ensures.value (search rules) in
    let did_load = all_did (λ (x : Queues) (j : Job) (v w : QueuedView _). HasLoaded g.F.File x v w) q q _ _ refl (ap with c.slice.ensures) a _ ws
    c.slice_mut.ensures.value (search rules) c.work_together.ensures.loaders in
    let did_draw = all_did (λ (x : WordsValue) (j : Job) (v w : WordSampler). HasDrawn word.ghosts dealt.ghosts g.P.Filter x rows j.scene.shape
    j.scene.depth j.scene.path j.picture j.scene.path.height (row_length j.scene.depth j.scene.path.width) v w) words words _ _ refl
    (ap with c.slice.ensures) e _ us c.slice_mut-2.ensures.value (search rules) c.work_together.ensures.samplers in
    let did_stream = subst (λ (l : List Planned). HasStreamed word.ghosts words q l b d) c.slice.ensures c.work_together.ensures.streamer in
    back g.F.File g.P.Filter words rows q own b d c.args.streams.now c.detach-loaders.new.self c.args.pool.now c.detach-samplers.new.self job
    a (refill (length a) a ws) e (refill (length e) e us) c.requires.ready c.requires.job refl c.detach-loaders.ensures.out c.detach-samplers.ensures.out
    c.detach-samplers.ensures.rest number number_f did_load did_draw did_stream

pub returns-clause-run : goal.returns-clause-run
returns-clause-run g c =
    let with = λ (batch : List Planned). job_of c.args.shot.now batch in
    let job = with c.args.batch.now.elements in
    let words = c.args.words.now in
    let rows = c.args.rows.now in
    let q = c.args.queues.now in
    let own = c.args.own.now in
    let b : WordStreamer = record own { answers = c.detach-loaders.new.answers } in
    let a = c.detach-loaders.result.elements in
    let e = c.detach-samplers.result.elements in
    let ws = c.work_together.new.loaders in
    let us = c.work_together.new.samplers in
    let d = c.work_together.new.streamer in
    let number = same_number a _ ws c.slice_mut.ensures.value (search rules) in
    let number_f = same_number e _ us c.slice_mut-2.ensures.value (search rules) in
    let did_load = all_did (λ (x : Queues) (j : Job) (v w : QueuedView _). HasLoaded g.F.File x v w) q q _ _ refl (ap with c.slice.ensures) a _ ws
    c.slice_mut.ensures.value (search rules) c.work_together.ensures.loaders in
    let did_draw = all_did (λ (x : WordsValue) (j : Job) (v w : WordSampler). HasDrawn word.ghosts dealt.ghosts g.P.Filter x rows j.scene.shape
    j.scene.depth j.scene.path j.picture j.scene.path.height (row_length j.scene.depth j.scene.path.width) v w) words words _ _ refl
    (ap with c.slice.ensures) e _ us c.slice_mut-2.ensures.value (search rules) c.work_together.ensures.samplers in
    let did_stream = subst (λ (l : List Planned). HasStreamed word.ghosts words q l b d) c.slice.ensures c.work_together.ensures.streamer in
    ran_back g.F.File g.P.Filter words rows q own b d c.args.streams.now c.detach-loaders.new.self c.args.pool.now c.detach-samplers.new.self job
    a (refill (length a) a ws) e (refill (length e) e us) c.requires.ready c.requires.job refl c.detach-loaders.ensures.out c.detach-samplers.ensures.out
    c.detach-samplers.ensures.rest number number_f did_load did_draw did_stream
    c.end_lent.new.own c.end_lent.new.streams c.end_lent.new.pool c.end_lent.result c.end_lent.ensures.run

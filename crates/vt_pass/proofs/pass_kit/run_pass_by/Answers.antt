use Rattle.std.proofs.Common.{refl, sym, subst}
use Rattle.vt_loading.specs.Jobs.{job_of}
use Rattle.vt_word_table.specs.Views.{StreamerView, IsStreamerOf}
use Rattle.vt_pass.specs.declared.pass_kit.PassKit.{PassKit}
use Rattle.vt_pass.specs.PassKits.{IsIdleKit, KitRan}
use Rattle.vt_pass.proofs.Kits.{idle_kit}
use Rattle.vt_pass.proofs.WordsRan.{kit_ran, still_all_samplers}
use Rattle.vt_pass.proofs.pass_kit.run_pass_by.Goals as goal

pub returns-clause-ran : goal.returns-clause-ran
returns-clause-ran g c =
    let words = c.args.words.now in
    let job = job_of c.args.shot.now c.args.batch.now.elements in
    let same = c.swap.ensures.y_after in
    let l : PassKit _ = record {
      queues = c.args.pool.now.queues;
      own = record c.begin_and_draw-report.new.own { writer = c.swap-2.new.y };
      rows = c.args.pool.now.rows;
      streams = c.begin_and_draw-report.new.streams;
      pool = c.begin_and_draw-report.new.pool;
    } in
    let e = c.begin_and_draw-report.ensures in
    subst (λ (x : StreamerView). KitRan g.F.File g.P.Filter words job c.begin_and_draw-report.result x c.args.pool.now c.swap-2.new.x l) same
    (kit_ran g.F.File g.P.Filter words c.swap.new.y c.swap-2.new.x c.args.pool.now l job c.begin_and_draw-report.result
    c.begin_and_draw-report.new.own (sym c.swap-2.ensures.x_after)
    (subst (λ (x : StreamerView). IsStreamerOf words x) (sym same) c.requires.prepared.idle.fit.of) e.idle e.ran e.came)

pub returns-clause-idle : goal.returns-clause-idle
returns-clause-idle g c =
    let words = c.args.words.now in
    let job = job_of c.args.shot.now c.args.batch.now.elements in
    let l : PassKit _ = record {
      queues = c.args.pool.now.queues;
      own = record c.begin_and_draw-report.new.own { writer = c.swap-2.new.y };
      rows = c.args.pool.now.rows;
      streams = c.begin_and_draw-report.new.streams;
      pool = c.begin_and_draw-report.new.pool;
    } in
    let e = c.begin_and_draw-report.ensures in
    subst (λ (x : StreamerView). IsIdleKit g.F.File words x l) (sym c.swap-2.ensures.x_after)
    (idle_kit g.F.File words c.begin_and_draw-report.new.own l e.idle refl refl
    (still_all_samplers g.F.File g.P.Filter words c.swap.new.y c.swap-2.new.x c.args.pool.now l job c.begin_and_draw-report.result
    c.begin_and_draw-report.new.own (sym c.swap-2.ensures.x_after)
    (subst (λ (x : StreamerView). IsStreamerOf words x) (sym c.swap.ensures.y_after) c.requires.prepared.idle.fit.of) e.idle e.ran e.came
    c.requires.prepared.idle.fit.samplers))

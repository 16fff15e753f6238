-- A pass over words that are lent: with them a kit is a machine, so that what its workers did is a pass.
use Rattle.std.proofs.Common.{◌≡◌, Option, None, Some, List, length, Result, Ok, Err, refl, subst}
use denote.RawPtr.{null_ptr}
use Rattle.std.specs.Prelude.{IfOk}
use Rattle.vt_outside.specs.declared.outside.File.{Ghosts as FileMeanings}
use Rattle.vt_outside.specs.declared.answers.NoMemory.{NoMemory}
use Rattle.vt_load.specs.declared.queued.Queues.{Queues}
use Rattle.vt_load.specs.QueuedLoaders.{QueuedView, HasLoaded}
use Rattle.vt_loading.specs.Jobs.{Job}
use Rattle.vt_loading.specs.All.{AllDid}
use Rattle.vt_loading.specs.MachineTypes.crew.PassReport.{PassReport}
use Rattle.vt_loading.specs.Machines.{MachineState}
use Rattle.vt_loading.specs.Passes.{IsJobFor, EndsPassRun}
use Rattle.vt_loading.specs.LoaderPools.{LoaderPoolView, AreLoadersOut, stream_before}
use Rattle.vt_pass_machine.specs.PicturesTypes.filters.Filter.{Ghosts as FilterMeanings}
use Rattle.vt_pass_machine.specs.Samplers.{row_length}
use Rattle.vt_pass_machine.specs.PassSamplers.{HasDrawn}
use Rattle.vt_pass_machine.specs.SchedulesTypes.dealt.Dealt.{Dealt}
use Rattle.vt_pass_machine.specs.SchedulesTypes.dealt.Nothing.{Nothing}
use Rattle.vt_pass_machine.specs.SchedulesTypes.dealt.DealtWay.{DealtWay}
use Rattle.vt_pass_machine.specs.SchedulesTypes.dealt.DealtHome.{DealtHome}
use Rattle.vt_pass_machine.specs.PassTasks.{HasStreamed}
use Rattle.vt_word_table.specs.Values.{WordsValue}
use Rattle.vt_word_table.specs.Views.{StreamerView}
use Rattle.vt_word_table.specs.declared.table.WordTable.{WordTable}
use Rattle.vt_word_table.specs.declared.table.WordReader.{WordReader}
use Rattle.vt_word_table.specs.contracts.table.WordTablePageTable.TheImpl as word
use Rattle.vt_schedules.specs.contracts.dealt.DealtSchedule.TheImpl as dealt
use Rattle.vt_pass_machine.specs.declared.machine.Machine.{Machine}
use Rattle.vt_pass_machine.specs.Machines.{setup_by, state_by, drawing_by_turns, drawn_by, held_from, IsIdle, IsReady, IsDetached, Begun, MayFinish}
use Rattle.vt_pass_machine.specs.Laws.{come_back, has_ended}
use Rattle.vt_pass.specs.WordPools.{WordSampler, WordPool, WordStreamer}
use Rattle.vt_pass.specs.Runs.{HasRunLent}

abbrev WordMachine : Type 0 → Type 0 → Type 0
WordMachine F P = Machine F WordTable Dealt P WordsValue WordReader StreamerView Nothing DealtWay DealtHome

module _ {F P : Type 0} (g : FileMeanings F) (filter : FilterMeanings P) (words : WordsValue) (rows : Nothing) (q : Queues) where
  -- the machine of a kit with the words and the streamer that it is lent
  abbrev machine : Option WordStreamer → LoaderPoolView F → WordPool → WordMachine F P
  machine t k r = record {
    shared = record {
      ptr = null_ptr;
      value = record { parts = record { table = words; rows = rows; queues = q; kind = record {}; schedule = record {}; filter = record {} } };
    };
    streamer = t;
    streams = k;
    pool = r;
  }

  -- its workers were moved out, and have worked
  module _ (own b d : WordStreamer) (k l : LoaderPoolView F) (r s : WordPool) (job : Job) (a c : List (QueuedView F)) (e f : List WordSampler)
      (ready : IsReady g word.ghosts dealt.ghosts words rows q own k r job.batch) (job_is : IsJobFor (setup_by g (length own.writer.owners) k r) job)
      (streamer_is : b ≡ record own { answers = b.answers }) (out : AreLoadersOut g q k l own.answers b.answers a)
      (samplers_are : e ≡ r.samplers.elements) (pool : s ≡ record r { samplers = s.samplers }) (number : length c ≡ length a)
      (number_f : length f ≡ length e) (did_load : AllDid (HasLoaded g q) a c)
      (did_draw : AllDid (HasDrawn word.ghosts dealt.ghosts filter words rows job.scene.shape job.scene.depth job.scene.path job.picture
      job.scene.path.height (row_length job.scene.depth job.scene.path.width)) e f) (did_stream : HasStreamed word.ghosts words q job.batch b d) where
    abbrev m : WordMachine F P
    m = machine (Some own) k r

    abbrev n : WordMachine F P
    n = machine None l s

    detached : IsDetached g m n a e b
    detached = record {
      shared = refl;
      gone = refl;
      was = own;
      there = refl;
      streamer_is = streamer_is;
      loaders_out = out;
      samplers_are = samplers_are;
      pool = pool;
    }

    -- they may be moved back
    pub back : (z : Begun F WordTable Dealt WordsValue WordReader StreamerView Nothing DealtWay DealtHome)
        × MayFinish g word.ghosts dealt.ghosts filter words rows q l s job c f d z
    unfolding detached
    back =
        let x = come_back g word.ghosts dealt.ghosts filter job m n a c e f b d ready job_is detached number number_f did_load did_draw did_stream in
        (x.0, x.1.may)

    -- and once they were, the pass was run that began with the machine
    pub ran_back : (u : WordStreamer) (o : LoaderPoolView F) (p : WordPool) (report : PassReport)
        → ((z : Begun F WordTable Dealt WordsValue WordReader StreamerView Nothing DealtWay DealtHome)
        → MayFinish g word.ghosts dealt.ghosts filter words rows q l s job c f d z
        → HasRunLent g filter words job report (state_by g (length z.streamer.writer.owners) z.streamer.writer.writer.journal (stream_before l z.stream) s)
        z.streamer.writer z.samplers u o p)
        → HasRunLent g filter words job report (state_by g (length own.writer.owners) own.writer.writer.journal k r) own.writer r.samplers.elements u o p
    unfolding detached
    ran_back u o p report run =
        let both = has_ended g word.ghosts dealt.ghosts filter job m n a c e f b d ready job_is detached number number_f did_load did_draw did_stream
        (machine (Some u) o p) (Ok report) (λ z may. let its = run z may.may in (record { ran = its.ran; goes_on = its.idle; broke = tt }, its.held)) in
        record { ran = both.0.ran; idle = both.0.goes_on; held = both.1 }

-- the workers of a pass were moved back, and it was told what it did
pub told : {F P : Type 0} (g : FileMeanings F) (filter : FilterMeanings P) (words : WordsValue) (job : Job) (before : MachineState) (v : StreamerView)
    (samplers : List WordSampler) (u : WordStreamer) (k : LoaderPoolView F) (r : WordPool) (result : Result PassReport NoMemory) (report : PassReport)
    → result ≡ Ok report → EndsPassRun (drawing_by_turns filter dealt.ghosts.DEALT) (drawn_by word.ghosts filter dealt.ghosts.DEALT r (Some u))
    (IsIdle g word.ghosts words u k r) job result before (state_by g (length u.writer.owners) u.writer.writer.journal k r)
    × IfOk result (λ (x : PassReport). held_from word.ghosts filter v samplers (Some u) r job x.rows.elements)
    → HasRunLent g filter words job report before v samplers u k r
told g filter words job before v samplers u k r (Ok x) report is (ends, held) =
    subst (λ (y : PassReport). HasRunLent g filter words job y before v samplers u k r) (let e : x ≡ report = cc is in e)
    (record { ran = ends.ran; idle = ends.goes_on; held = held })
told g filter words job before v samplers u k r (Err refusal) report is both = absurd (cc is)

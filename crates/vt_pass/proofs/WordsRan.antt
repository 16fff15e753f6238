-- A pass of a kit, said of its words.
use Rattle.std.proofs.Common.{◌≡◌, ℕ, ◌≤◌, Some, List, [], length, refl, sym, ap, ◌∙◌, subst}
use Rattle.std.specs.Prelude.{slice_index_or, IsSome}
use Rattle.vt_outside.specs.declared.outside.File.{Ghosts as FileMeanings}
use Rattle.vt_load.specs.Shape.{Shape}
use Rattle.vt_pass_machine.specs.Pages.{root_of}
use Rattle.vt_pass_machine.specs.Dealing.{sampler_of}
use Rattle.vt_pass_machine.specs.Evidence.{AreShown}
use Rattle.vt_pass_machine.specs.Shots.{shot_row}
use Rattle.vt_pass_machine.specs.Paths.{PathView}
use Rattle.vt_pass_machine.specs.PicturesTypes.filters.Filter.{Ghosts as FilterMeanings}
use Rattle.vt_pass_machine.specs.JournalTypes.changes.Change.{Change}
use Rattle.vt_pass_machine.specs.JournalTypes.changes.RowLine.{RowLine}
use Rattle.vt_pass_machine.specs.Changes.{newest}
use Rattle.vt_pass_machine.specs.Placing.{bytes_of}
use Rattle.vt_pass_machine.specs.Stills.{IsStill}
use Rattle.vt_load.specs.declared.queued.Queues.{Queues}
use Rattle.vt_loading.specs.PlanTypes.batches.Planned.{Planned}
use Rattle.vt_loading.specs.MachineTypes.crew.Crew.{Crew}
use Rattle.vt_loading.specs.MachineTypes.crew.PassReport.{PassReport}
use Rattle.vt_loading.specs.Jobs.{Job}
use Rattle.vt_loading.specs.Drawings.{drawing_of}
use Rattle.vt_loading.specs.Machines.{MachineState, Setup, files_of, known_bytes}
use Rattle.vt_loading.specs.Passes.{MapsRoot, IsJobFor, Ran}
use Rattle.vt_loading.specs.LoaderPools.{LoaderPoolView}
use Rattle.vt_word_table.specs.GraceTypes.sizes.Sizes.{Sizes}
use Rattle.vt_word_table.specs.Noted.{IsNotedBy}
use Rattle.vt_word_table.specs.Values.{WordsValue}
use Rattle.vt_word_table.specs.Views.{StreamerView, IsStreamerOf}
use Rattle.vt_word_table.specs.WordLaws.{taken_none, came_within}
use Rattle.vt_word_table.specs.contracts.table.WordTablePageTable.TheImpl as word
use Rattle.vt_schedules.specs.contracts.dealt.DealtSchedule.TheImpl as dealt
use Rattle.vt_pass_machine.specs.SchedulesTypes.dealt.Nothing.{Nothing}
use Rattle.vt_pass_machine.specs.Machines.{setup_by, state_by, drawing_by_turns, drawn_by, held_from, IsIdle, IsReady}
use Rattle.vt_pass.specs.NewRows.{AreNewRows}
use Rattle.vt_pass.proofs.NewRows.{new_rows}
use Rattle.vt_pass.specs.declared.pass_kit.PassKit.{PassKit}
use Rattle.vt_pass.specs.WordPools.{WordPool, WordStreamer}
use Rattle.vt_pass.specs.PassKits.{IsPreparedFor, KitRan, kit_setup, kit_state, kit_drawn, kit_rows}

-- the samplers of a prepared pass were given their passes, and its requests were put
module _ {F : Type 0} (g : FileMeanings F) (words : WordsValue) (own t : WordStreamer) (k l : LoaderPoolView F) (r s : WordPool)
    (still : IsStill word.ghosts words own.writer t.writer) (streams : l ≡ record k { round = l.round }) (pool : s ≡ record r { samplers = s.samplers }) where
  same_setup : setup_by g (length t.writer.owners) l s ≡ setup_by g (length own.writer.owners) k r
  same_setup i = record {
    shape = (ap (λ (x : LoaderPoolView F). x.shape) streams) i;
    depth = (ap (λ (x : LoaderPoolView F). x.depth) streams) i;
    width = (ap (λ (x : WordPool). x.width) pool) i;
    height = (ap (λ (x : WordPool). x.height) pool) i;
    frames = still.frames i;
    crew = (ap (λ (x : LoaderPoolView F). x.crew) streams) i;
    bytes = (ap (λ (x : LoaderPoolView F). known_bytes g x.stores) streams) i;
  }

  same_state : state_by g (length t.writer.owners) t.writer.writer.journal l s ≡ state_by g (length own.writer.owners) own.writer.writer.journal k r
  same_state i = record {
    setup = same_setup i;
    files = (ap (λ (x : LoaderPoolView F). files_of g x.stores) streams) i;
    journal = still.journal i;
    rows = (ap (λ (x : WordPool). bytes_of x.drawn.elements) pool) i;
    counts = (ap (λ (x : WordPool). x.counts) pool) i;
  }

  pub begun_job : (job : Job) → IsJobFor (setup_by g (length own.writer.owners) k r) job → IsJobFor (setup_by g (length t.writer.owners) l s) job
  begun_job job is = subst (λ (x : Setup). IsJobFor x job) (sym same_setup) is

  pub begun_ran : {P : Type 0} (filter : FilterMeanings P) (job : Job) (report : PassReport) (u : WordStreamer) (o : LoaderPoolView F) (p : WordPool)
      → Ran (drawing_by_turns filter dealt.ghosts.DEALT) (drawn_by word.ghosts filter dealt.ghosts.DEALT p (Some u)) job report
      (state_by g (length t.writer.owners) t.writer.writer.journal l s) (state_by g (length u.writer.owners) u.writer.writer.journal o p)
      → Ran (drawing_by_turns filter dealt.ghosts.DEALT) (drawn_by word.ghosts filter dealt.ghosts.DEALT p (Some u)) job report
      (state_by g (length own.writer.owners) own.writer.writer.journal k r) (state_by g (length u.writer.owners) u.writer.writer.journal o p)
  begun_ran filter job report u o p ran = subst (λ (x : MachineState). Ran (drawing_by_turns filter dealt.ghosts.DEALT)
      (drawn_by word.ghosts filter dealt.ghosts.DEALT p (Some u)) job report x (state_by g (length u.writer.owners) u.writer.writer.journal o p)) same_state ran

  -- the rows came since the samplers had no passes yet
  pub begun_rows : {P : Type 0} (filter : FilterMeanings P) (job : Job) (rows : Nothing) (q : Queues) (batch : List Planned) (lines : List RowLine)
      (u : WordStreamer) (p : WordPool) → IsReady g word.ghosts dealt.ghosts words rows q t l s batch → 1 ≤ length lines
      → held_from word.ghosts filter t.writer s.samplers.elements (Some u) p job lines
      → AreNewRows filter p.geometry p.depth own.writer.writer u.writer.writer job.scene.path job.picture lines (bytes_of p.drawn.elements)
  begun_rows filter job rows q batch lines u p ready some held =
      new_rows filter s p job lines some own.writer u.writer
      (λ n a is. (ready.samplers.ready n a is).start_is ∙ ap (λ (js : List Change). length js) still.journal)
      (λ y line is. let its = held y line is in record {
        was = its.was;
        had = its.had;
        home = its.home;
        has = its.has;
        reader = its.reader;
        came = came_within own.writer.writer t.writer.writer u.writer.writer u.writer.writer line.sampler its.reader.pass still.later
            (taken_none u.writer.writer) its.came;
        drew = its.drew;
        drawn = its.drawn;
      })

-- words have as many frames as their streamer
frames_are : (words : WordsValue) (v : StreamerView) → IsStreamerOf words v → words.sizes.frames ≡ length v.owners
frames_are words v of = ap (λ (z : Sizes). z.frames) of.sizes

-- a pass of a kit was run
module _ {F P : Type 0} (g : FileMeanings F) (filter : FilterMeanings P) (words : WordsValue) (v w : StreamerView) (k l : PassKit F) (job : Job) where
  pub asked_root : (batch : List Planned) → IsPreparedFor g words v k batch → MapsRoot (kit_state g words v.writer.journal k)
      → IsSome (newest v.writer.journal (root_of v.shape))
  asked_root batch prepared root = subst (λ (s : Shape). IsSome (newest v.writer.journal (root_of s))) (sym prepared.idle.fit.shape) root

  pub asked_job : IsJobFor (kit_setup g words k) job → IsJobFor (setup_by g (length v.owners) k.streams k.pool) job
  asked_job is = record { shape = is.shape; depth = is.depth; width = is.width; height = is.height; picture = is.picture }

  module _ (report : PassReport) (u : WordStreamer) (u_is : u.writer ≡ w) (of : IsStreamerOf words v)
      (idle : IsIdle g word.ghosts words u l.streams l.pool)
      (ran : Ran (drawing_by_turns filter dealt.ghosts.DEALT) (drawn_by word.ghosts filter dealt.ghosts.DEALT l.pool (Some u)) job report
      (state_by g (length v.owners) v.writer.journal k.streams k.pool) (state_by g (length u.writer.owners) u.writer.writer.journal l.streams l.pool))
      (came : AreNewRows filter l.pool.geometry l.pool.depth v.writer u.writer.writer job.scene.path job.picture report.rows.elements
      (bytes_of l.pool.drawn.elements)) where
    pub same_crew : l.streams.crew ≡ k.streams.crew
    same_crew = ap (λ (x : Setup). x.crew) ran.setup

    drawn_words : (path : PathView) (i y version : ℕ) (bytes : List ℕ) → drawn_by word.ghosts filter dealt.ghosts.DEALT l.pool (Some u) path i y version bytes
        → kit_drawn filter l u.writer path i y version bytes
    drawn_words path i y version bytes was = record {
      drawn = subst (λ (z : Shape × ℕ). AreShown filter.shown z.0 z.1 version (IsNotedBy u.writer.writer) (shot_row z.0 path i y) path.width bytes)
          (λ j. (idle.agree.shape j, idle.agree.depth j)) was.drawn;
      by = was.at.by;
      returned = was.at.among;
      dealt_to = was.at.sampler ∙ was.dealt_to refl ∙ ap (sampler_of y) idle.agree.count;
      held = was.at.held;
    }

    words_ran : Ran (drawing_of filter) (kit_drawn filter l u.writer) job report (kit_state g words v.writer.journal k)
        (kit_state g words u.writer.writer.journal l)
    words_ran =
        let moved = subst (λ (z : ℕ × ℕ). Ran (drawing_by_turns filter dealt.ghosts.DEALT)
        (drawn_by word.ghosts filter dealt.ghosts.DEALT l.pool (Some u)) job report (state_by g z.0 v.writer.journal k.streams k.pool)
        (state_by g z.1 u.writer.writer.journal l.streams l.pool))
        (λ j. (sym (frames_are words v of) j, sym (frames_are words u.writer idle.fit.of) j)) ran in
        record {
          setup = moved.setup;
          outcome = moved.outcome;
          journal = moved.journal;
          rows = moved.rows;
          read = moved.read;
          picture = record {
            count = moved.picture.count;
            full = moved.picture.full;
            replayed = moved.picture.replayed;
            from_draws = λ y line is. drawn_words job.scene.path job.picture y line.version (slice_index_or (kit_rows l) y [])
                (moved.picture.from_draws y line is);
            all_counts = moved.picture.all_counts;
            counts_are = moved.picture.counts_are;
          };
        }

    pub kit_ran : KitRan g filter words job report v k w l
    kit_ran = subst (λ (x : StreamerView). KitRan g filter words job report v k x l) u_is (record {
      ran = words_ran;
      came = subst (λ (z : Shape × ℕ). AreNewRows filter z.0 z.1 v.writer u.writer.writer job.scene.path job.picture report.rows.elements (kit_rows l))
          (λ j. (idle.agree.shape j, idle.agree.depth j)) came;
    })

    pub still_all_samplers : words.sizes.samplers ≡ k.streams.crew.samplers → words.sizes.samplers ≡ l.streams.crew.samplers
    still_all_samplers are = are ∙ ap (λ (c : Crew). c.samplers) (sym same_crew)

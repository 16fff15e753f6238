-- The rows of a pass over shared words came in it, by what its machine says of them.
use Rattle.std.proofs.Common.{◌≡◌, ℕ, ◌≤◌, Option, None, Some, List, [], ◌∷◌, length, refl, sym, ◌∙◌, subst, arith}
use Rattle.std.specs.Prelude.{slice_get, slice_index_or, Contains}
use Rattle.std.proofs.lemmas.List.{append_cancel_right}
use Rattle.std.proofs.lemmas.List.Elements.{Contains-append_left}
use Rattle.std.specs.Arc.{arc_value}
use Rattle.vt_pass_machine.specs.OutsideTypes.outside.File.{Ghosts as FileMeanings}
use Rattle.vt_pass_machine.specs.Shots.{shot_row}
use Rattle.vt_pass_machine.specs.DrawLookups.{Note}
use Rattle.vt_pass_machine.specs.Jobs.{Job}
use Rattle.vt_pass_machine.specs.PlanTypes.batches.Planned.{Planned}
use Rattle.vt_pass_machine.specs.JournalTypes.changes.RowLine.{RowLine}
use Rattle.vt_pass_machine.specs.PicturesTypes.filters.Filter.{Ghosts as FilterMeanings}
use Rattle.vt_pass_machine.specs.SchedulesTypes.schedule.Schedule.{Ghosts as ScheduleMeanings}
use Rattle.vt_pass_machine.specs.PassRowsTypes.sampler.PassSampler.{PassSampler}
use Rattle.vt_pass_machine.specs.PassPoolTypes.pool.PassPool.{PassPool}
use Rattle.vt_pass_machine.specs.Placing.{bytes_of}
use Rattle.vt_pass_machine.specs.Ended.{IsHeldRow}
use Rattle.vt_pass_machine.specs.Machines.{IsReadyBy, held_by, OfWriters}
use Rattle.vt_pass_machine.specs.declared.machine.Machine.{Machine}
use Rattle.vt_pass_machine.proofs.Handed.{shown_by_more}
use Rattle.vt_word_table.specs.GraceTypes.views.EntryNote.{EntryNote as ReadEntry}
use Rattle.vt_word_table.specs.GraceTypes.views.WordNote.{WordNote as ReadWord}
use Rattle.vt_word_table.specs.GraceTypes.views.Returned.{Returned}
use Rattle.vt_word_table.specs.GraceTypes.views.WriterView.{WriterView}
use Rattle.vt_word_table.specs.Values.{WordsValue, PassValue}
use Rattle.vt_word_table.specs.Views.{StreamerView}
use Rattle.vt_word_table.specs.WriterViews.{version_of}
use Rattle.vt_word_table.specs.Noted.{IsAmong}
use Rattle.vt_word_table.specs.WordReaders.{HeldAt, IsNotedIf, given_of}
use Rattle.vt_word_table.specs.WordWriters.{HasTakenMore, CameHomeIf}
use Rattle.vt_word_table.specs.declared.table.WordTable.{WordTable}
use Rattle.vt_word_table.specs.declared.table.WordReader.{WordReader}
use Rattle.vt_word_table.specs.contracts.table.WordTablePageTable.TheImpl as word
use Rattle.vt_pass_machine.proofs.HeldRows.{of_held}
use Rattle.vt_pass.specs.NewRows.{IsHeldLine, AreNewRows}

-- what is so of the first of some lines
of_first : {A : Type 0} (lines : List RowLine) → 1 ≤ length lines → ((y : ℕ) (line : RowLine) → slice_get lines y ≡ Some line → A) → A
of_first [] some each = absurd (omega (arith, some))
of_first (line ∷ lines) some each = each 0 line refl

-- a pass of the shared words came home
module _ (v w : WriterView) where
  taken_if : (number : ℕ) (o : Option PassValue) → CameHomeIf v w number o → HasTakenMore v w
  taken_if number None came = absurd came
  taken_if number (Some p) came = came.taken

  held_line : (taken : HasTakenMore v w) (o q : Option PassValue) (line : RowLine) → given_of o ≡ version_of v → CameHomeIf v w line.sampler q
      → HeldAt o q line.version → IsHeldLine (version_of v) taken.returned line
  held_line taken None q line given came drew = absurd drew
  held_line taken (Some p) None line given came drew = absurd came
  held_line taken (Some p) (Some q) line given came drew =
      let by : Returned = record { sampler = line.sampler; given = q.view.given; held = q.view.held } in
      record {
        by = by;
        among = subst (λ (l : List Returned). Contains l by)
            (append_cancel_right came.taken.returned taken.returned v.returned (sym came.taken.returned_are ∙ taken.returned_are)) came.among;
        sampler = refl;
        given = drew.given ∙ given;
        held = subst (λ (l : List ℕ). Contains l line.version) (sym drew.held.held)
            (Contains-append_left drew.held.more p.view.held line.version drew.held.among);
      }

  among_taken : (taken : HasTakenMore v w) (number : ℕ) (o : Option PassValue) → CameHomeIf v w number o → (note : Note) → IsNotedIf o note
      → IsAmong taken.entries taken.words note
  among_taken taken number None came note noted = absurd came
  among_taken taken number (Some p) came note noted =
      let entries : came.taken.entries ≡ taken.entries =
      append_cancel_right came.taken.entries taken.entries v.notes (sym came.taken.noted ∙ taken.noted) in
      let words : came.taken.words ≡ taken.words =
      append_cancel_right came.taken.words taken.words v.word_notes (sym came.taken.worded ∙ taken.worded) in
      subst (λ (z : List ReadEntry × List ReadWord). IsAmong z.0 z.1 note) (λ i. (entries i, words i)) (came.notes note noted)

-- the rows of a pass over shared words
module _ {S P B O M : Type 0} (filter : FilterMeanings P) (b r : PassPool WordTable S WordsValue WordReader StreamerView B O M) (job : Job)
    (lines : List RowLine) (some : 1 ≤ length lines) where
  pub new_rows : (v w : StreamerView)
      → ((k : ℕ) (a : PassSampler WordTable S WordsValue WordReader StreamerView B O M) → slice_get b.samplers.elements k ≡ Some a
      → given_of a.reader.pass ≡ version_of v.writer)
      → ((y : ℕ) (line : RowLine) → slice_get lines y ≡ Some line
      → IsHeldRow word.ghosts filter r.geometry r.depth v w b.samplers.elements r.samplers.elements job.scene.path job.picture y line
      (slice_index_or (bytes_of r.drawn.elements) y []))
      → AreNewRows filter r.geometry r.depth v.writer w.writer job.scene.path job.picture lines (bytes_of r.drawn.elements)
  new_rows v w started came =
      let taken = of_first lines some (λ y line is. taken_if v.writer w.writer line.sampler (came y line is).reader.pass (came y line is).came) in
      record {
        taken = taken;
        held = λ y line is.
            let h = came y line is in
            held_line v.writer w.writer taken h.was.reader.pass h.reader.pass line (started line.sampler h.was h.had) h.came h.drew;
        noted = record {
          entries = taken.entries;
          words = taken.words;
          noted = taken.noted;
          worded = taken.worded;
          each = λ y line is.
              let h = came y line is in
              shown_by_more filter.shown r.geometry r.depth line.version job.scene.path.width (IsNotedIf h.reader.pass) (IsAmong taken.entries taken.words)
              (shot_row r.geometry job.scene.path job.picture y) (slice_index_or (bytes_of r.drawn.elements) y [])
              (among_taken v.writer w.writer taken line.sampler h.reader.pass h.came) h.drawn;
        };
      }

pub words_rows : {F S P B O M : Type 0} (g : FileMeanings F) (schedule : ScheduleMeanings S B O M) (filter : FilterMeanings P)
    (m p : Machine F WordTable S P WordsValue WordReader StreamerView B O M) (batch : List Planned) (job : Job) (lines : List RowLine)
    → IsReadyBy g word.ghosts schedule (arc_value m.shared).parts.table (arc_value m.shared).parts.rows (arc_value m.shared).parts.queues m.streamer m.streams m.pool batch
    → held_by word.ghosts filter m.streamer m.pool.samplers.elements p.streamer p.pool job lines → 1 ≤ length lines
    → OfWriters (λ (v w : StreamerView). AreNewRows filter p.pool.geometry p.pool.depth v.writer w.writer job.scene.path job.picture lines
    (bytes_of p.pool.drawn.elements)) m.streamer p.streamer
words_rows g schedule filter m p batch job lines ready held some =
    of_held word.ghosts filter m.pool.samplers.elements p.pool job lines
    (λ o. IsReadyBy g word.ghosts schedule (arc_value m.shared).parts.table (arc_value m.shared).parts.rows (arc_value m.shared).parts.queues o m.streams m.pool batch)
    (λ (v w : StreamerView). AreNewRows filter p.pool.geometry p.pool.depth v.writer w.writer job.scene.path job.picture lines
    (bytes_of p.pool.drawn.elements)) m.streamer p.streamer ready held
    (λ u v is came. new_rows filter m.pool p.pool job lines some u.writer v.writer (λ k a there. (is.samplers.ready k a there).start_is) came)

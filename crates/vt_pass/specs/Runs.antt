-- The end of a pass over words that are lent.
use Rattle.std.specs.Prelude.{Some, List, length}
use Rattle.vt_outside.specs.declared.outside.File.{Ghosts as FileMeanings}
use Rattle.vt_pass_machine.specs.PicturesTypes.filters.Filter.{Ghosts as FilterMeanings}
use Rattle.vt_loading.specs.MachineTypes.crew.PassReport.{PassReport}
use Rattle.vt_loading.specs.Jobs.{Job}
use Rattle.vt_loading.specs.Machines.{MachineState}
use Rattle.vt_loading.specs.Passes.{Ran}
use Rattle.vt_loading.specs.LoaderPools.{LoaderPoolView}
use Rattle.vt_word_table.specs.Values.{WordsValue}
use Rattle.vt_word_table.specs.Views.{StreamerView}
use Rattle.vt_word_table.specs.contracts.table.WordTablePageTable.TheImpl as word
use Rattle.vt_schedules.specs.contracts.dealt.DealtSchedule.TheImpl as dealt
use Rattle.vt_pass_machine.specs.Machines.{state_by, drawing_by_turns, drawn_by, held_from, IsIdle}
use Rattle.vt_pass.specs.WordPools.{WordSampler, WordPool, WordStreamer}

-- a pass that began with this writer and these samplers was run, by its streamer, its loaders and its samplers after it: they are those of a machine
-- between its passes, and the rows came in it
pub record HasRunLent {F P : Type 0} (g : FileMeanings F) (filter : FilterMeanings P) (words : WordsValue) (job : Job) (report : PassReport) (before : MachineState)
    (v : StreamerView) (samplers : List WordSampler) (u : WordStreamer) (k : LoaderPoolView F) (r : WordPool) : Type 0 where
  pub ran : Ran (drawing_by_turns filter dealt.ghosts.DEALT) (drawn_by word.ghosts filter dealt.ghosts.DEALT r (Some u)) job report before
      (state_by g (length u.writer.owners) u.writer.writer.journal k r)
  pub idle : IsIdle g word.ghosts words u k r
  pub held : held_from word.ghosts filter v samplers (Some u) r job report.rows.elements

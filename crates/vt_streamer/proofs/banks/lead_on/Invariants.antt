use Rattle.std.proofs.Common.{◌+◌, ◌≤◌}
use Rattle.vt_table.specs.Changes.{at}
use Rattle.vt_grace.specs.WriterViews.{version_of}
use Rattle.vt_grace.specs.Places.{bank_of}
use Rattle.vt_grace.specs.Banks.{MayWriteNext, StandsForTable}
use Rattle.vt_grace.specs.Sound.{IsSound}
use Rattle.vt_grace.specs.Tokens.{IsWriterOf}
use Rattle.vt_streamer.specs.Banks.{HasWrittenBank}
use Rattle.vt_streamer.proofs.banks.lead_on.Given as goal

abbrev pub invariant-loop-made : goal.invariant-loop-made
invariant-loop-made l = record {
  begun : l.from ≤ l.made;
  of : IsWriterOf l.words l.writer;
  sound : IsSound l.writer.view;
  may : MayWriteNext l.writer.view;
  entered : HasWrittenBank l.fn.writer.view l.writer.view;
  stands : StandsForTable l.words.sizes l.writer.view.entries (at l.fn.writer.view.journal l.made) (bank_of (version_of l.fn.writer.view + 1));
}

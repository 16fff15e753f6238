use Rattle.std.proofs.Common.{◌≡◌, ◌<◌, ◌≤◌, ℕ}
use Rattle.vt_grace.specs.WriterViews.{floor_of}
use Rattle.vt_grace.specs.Sound.{IsSound}
use Rattle.vt_grace.specs.Tokens.{IsWriterOf}
use Rattle.vt_streamer.specs.Looks.{HasOnlyLooked}
use Rattle.vt_streamer.proofs.looks.reach_all.Given as goal

abbrev pub invariant-loop-sampler : goal.invariant-loop-sampler
invariant-loop-sampler l = record {
  of : IsWriterOf l.words l.writer;
  sound : IsSound l.writer.view;
  floors : l.floors ≡ l.writer.view.floors;
  looked : HasOnlyLooked l.fn.writer.view l.writer.view;
  reached : (k : ℕ) → k < l.sampler → l.least ≤ floor_of l.writer.view k;
}

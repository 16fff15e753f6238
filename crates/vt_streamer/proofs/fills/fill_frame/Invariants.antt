use Rattle.vt_definitions.specs.Depths.{word_at}
use Rattle.vt_grace.specs.Banks.{MayFill}
use Rattle.vt_grace.specs.Sound.{IsSound}
use Rattle.vt_grace.specs.Tokens.{IsWriterOf}
use Rattle.vt_streamer.specs.Fills.{HasFilled}
use Rattle.vt_streamer.proofs.fills.fill_frame.Given as goal

abbrev pub invariant-loop-place : goal.invariant-loop-place
invariant-loop-place l = record {
  of : IsWriterOf l.words l.writer;
  sound : IsSound l.writer.view;
  may : MayFill l.writer.view l.frame;
  filled : HasFilled l.fn.writer.view l.writer.view l.frame (word_at l.depth l.tile) l.place;
}

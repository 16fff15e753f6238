use Rattle.std.proofs.Common.{arith, ap}
use Rattle.vt_streamer.proofs.Filling.{filled_none, filled_more, still_may}
use Rattle.vt_streamer.proofs.fills.fill_frame.Goals as goal

pub loop-place-init : goal.loop-place-init
loop-place-init c = record { of = c.requires.of; sound = c.requires.sound; may = c.requires.may; filled = filled_none _ _ _ }

pub loop-place-preserved : goal.loop-place-preserved
loop-place-preserved c = let view = c.set_word.ensures.view in let inv = c.loop-place.invariant in let sizes = inv.of.sizes in record {
  of = c.set_word.ensures.of;
  sound = c.set_word.ensures.sound;
  may = still_may _ _ _ _ _ view inv.may;
  filled = filled_more _ _ _ _ _ _ _ inv.filled view c.word_in.ensures inv.sound.texels (let low = c.requires.frame in let count = ap (λ z. z.frames) sizes in omega arith)
      (let low = c.loop-place-test.true in let long = c.requires.texels in let count = ap (λ z. z.texels) sizes in omega arith);
}

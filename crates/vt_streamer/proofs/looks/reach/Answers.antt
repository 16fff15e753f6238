use Rattle.std.proofs.Common.{arith, ap}
use Rattle.vt_streamer.proofs.Looking.{looked_once}
use Rattle.vt_streamer.proofs.looks.reach.Goals as goal

pub returns-then-now-least-clause-looked : goal.returns-then-now-least-clause-looked
returns-then-now-least-clause-looked c = let sound = c.requires.sound in let count = ap (λ z. z.samplers) c.requires.of.sizes in let inside = c.requires.inside in
    looked_once _ _ _ _ c.look-word.ensures.view (let long = sound.floors in omega arith) (sound.low c.args.sampler (omega arith))

pub returns-else-now-least-clause-looked : goal.returns-else-now-least-clause-looked
returns-else-now-least-clause-looked c = let sound = c.requires.sound in let count = ap (λ z. z.samplers) c.requires.of.sizes in let inside = c.requires.inside in
    looked_once _ _ _ _ c.look-word.ensures.view (let long = sound.floors in omega arith) (sound.low c.args.sampler (omega arith))

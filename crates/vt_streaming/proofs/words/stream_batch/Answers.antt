use Rattle.std.proofs.Common.{◌≡◌, Bool, true, false, refl}
use Rattle.vt_streaming.proofs.Puts.{are_tiles, all_streamed}
use Rattle.vt_streaming.proofs.words.stream_batch.Goals as goal

never : (refused : Bool) → (refused ≡ true → ⊥) → refused ≡ false
never true not_so = absurd (not_so refl)
never false not_so = refl

pub returns : goal.returns
returns g c =
    let did = c.stream_results.ensures in
    let fine = never c.stream_results.result did.refused in
    record {
      streamer = did.of;
      answers = did.answers;
      took = did.took;
      all = did.all;
      streamed = all_streamed c.args.batch.now c.args.streamer.now c.stream_results.new.into.results.elements c.stream_results.new.writer (did.applied fine);
      shape = did.shape;
      frames = did.frames;
      events = did.events fine;
      tiles = are_tiles c.args.streamer.now.shape c.stream_results.new.into.results.elements did.tiles;
      losses = did.losses;
    }

use Rattle.vt_streaming.proofs.Puts.{is_tile}
use Rattle.vt_streaming.proofs.words.WordsTarget.put.Goals as goal

pub put_entry-requires-clause-tile : goal.put_entry-requires-clause-tile
put_entry-requires-clause-tile g c = is_tile c.args.streamer.now.shape c.args.tile.now c.requires.tile

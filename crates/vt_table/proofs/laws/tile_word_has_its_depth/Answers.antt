use Rattle.vt_table.proofs.TileWords.{depth_is, word_is}
use Rattle.vt_table.proofs.laws.tile_word_has_its_depth.Goals as goal

pub returns : goal.returns
returns c = record { depth = depth_is; word = word_is }

use Rattle.std.proofs.Common.{rules}
use Rattle.vt_box_filter.proofs.blocks.swap_words.Goals as goal

pub loop-i-preserved : goal.loop-i-preserved
loop-i-preserved c = search rules

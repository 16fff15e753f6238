use Rattle.vt_box_filter.specs.Blocks.{AreWords}
use Rattle.vt_box_filter.proofs.blocks.copy_words.Given as goal

abbrev pub invariant-loop-i : goal.invariant-loop-i
invariant-loop-i l = AreWords l.bytes l.i l.words

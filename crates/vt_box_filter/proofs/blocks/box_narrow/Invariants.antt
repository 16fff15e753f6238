use Rattle.vt_box_filter.specs.Blocks.{AreBoxes}
use Rattle.vt_box_filter.proofs.blocks.box_narrow.Given as goal

abbrev pub invariant-loop-i : goal.invariant-loop-i
invariant-loop-i l = AreBoxes 1 l.top l.bottom l.i l.boxes

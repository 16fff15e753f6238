use Rattle.vt_box_filter.specs.Blocks.{AreBoxes}
use Rattle.vt_box_filter.proofs.blocks.box_wide.Given as goal

abbrev pub invariant-loop-i : goal.invariant-loop-i
invariant-loop-i l = AreBoxes 2 l.top l.bottom l.i l.boxes

use Rattle.vt_box_filter.specs.Blocks.{AreEveryOther}
use Rattle.vt_box_filter.proofs.blocks.put_narrow_texels.Given as goal

abbrev pub invariant-loop-x : goal.invariant-loop-x
invariant-loop-x l = AreEveryOther 1 l.samples l.x l.out

use Rattle.std.proofs.Common.{◌≡◌}
use Rattle.std.specs.Prelude.{vec_len}
use Rattle.vt_mip.specs.HalvedStrips.{IsAtStrip, reader_state}
use Rattle.vt_mip.proofs.halved_strips.halve_strips.Given as goal

abbrev pub invariant-loop-strip : goal.invariant-loop-strip
invariant-loop-strip g l = record {
  at : IsAtStrip l.strip (reader_state g.F.File l.fn.reader) (reader_state g.F.File l.reader) l.half l.front.items;
  front : vec_len l.front ≡ vec_len l.fn.front;
  back : vec_len l.back ≡ vec_len l.fn.front;
  depth : l.half.depth ≡ l.fn.half.depth;
  width : l.half.width ≡ l.fn.half.width;
  height : l.half.height ≡ l.fn.half.height;
}

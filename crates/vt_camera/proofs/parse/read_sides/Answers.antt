use Rattle.std.proofs.Common.{codes}
use Rattle.vt_text.specs.Numbers.{number_spelling}
use Rattle.vt_text.specs.Lines.{fields_of}
use Rattle.vt_camera.proofs.PathReadingLemmas.{list_of_three}
use Rattle.vt_camera.proofs.parse.read_sides.Goals as goal

pub returns : goal.returns
returns c = (
  record {
    width_low = c.in_ok-width.ensures.0;
    width_high = c.in_ok-width.ensures.1;
    height_low = c.in_ok-height.ensures.0;
    height_high = c.in_ok-height.ensures.1;
  },
  list_of_three (fields_of c.args.line.now) (codes "size") (number_spelling c.in_ok-width.width) (number_spelling c.in_ok-height.height)
      c.if-not-has_word.ensures c.in_ok-width.ensures.2 c.in_ok-height.ensures.2 c.if-not-ends_before.ensures,
)

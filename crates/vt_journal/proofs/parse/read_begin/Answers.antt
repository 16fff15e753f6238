use Rattle.std.proofs.Common.{codes, arith}
use Rattle.vt_text.specs.Numbers.{number_spelling}
use Rattle.vt_text.specs.Lines.{fields_of}
use Rattle.vt_journal.proofs.Reading.{list_of_six}
use Rattle.vt_journal.proofs.parse.read_begin.Goals as goal

pub returns : goal.returns
returns c = (
  record {
    pass_inside = omega (arith, c.in_ok-pass.ensures.0);
    picture_inside = omega (arith, c.in_ok-picture.ensures.0);
    start_inside = omega
        (arith, c.in_ok-start.ensures.0);
  },
  list_of_six (fields_of c.args.line.now) (codes "pass") (number_spelling c.in_ok-pass.pass) (codes "picture")
      (number_spelling c.in_ok-picture.picture) (codes "start") (number_spelling c.in_ok-start.start)
      c.if-not-has_word.ensures c.in_ok-pass.ensures.1 c.if-not-has_word-2.ensures c.in_ok-picture.ensures.1 c.if-not-has_word-3.ensures
      c.in_ok-start.ensures.1 c.if-not-ends_before.ensures,
)

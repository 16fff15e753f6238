use Rattle.std.proofs.Common.{codes, arith}
use Rattle.vt_text.specs.Numbers.{number_spelling}
use Rattle.vt_text.specs.Lines.{fields_of}
use Rattle.vt_journal.proofs.Reading.{list_of_four}
use Rattle.vt_journal.proofs.parse.read_row.Goals as goal

pub returns : goal.returns
returns c = (
  record {
    row_inside = omega (arith, c.in_ok-row.ensures.0);
    sampler_inside = omega (arith, c.in_ok-sampler.ensures.0);
    version_inside = omega
        (arith, c.in_ok-version.ensures.0);
  },
  list_of_four (fields_of c.args.line.now) (codes "row") (number_spelling c.in_ok-row.row) (number_spelling c.in_ok-sampler.sampler)
      (number_spelling c.in_ok-version.version)
      c.if-not-has_word.ensures c.in_ok-row.ensures.1 c.in_ok-sampler.ensures.1 c.in_ok-version.ensures.1 c.if-not-ends_before.ensures,
)

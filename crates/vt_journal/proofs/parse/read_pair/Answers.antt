use Rattle.std.proofs.Common.{arith}
use Rattle.vt_text.specs.Numbers.{number_spelling}
use Rattle.vt_text.specs.Lines.{fields_of}
use Rattle.vt_pages.specs.Pages.{name_at}
use Rattle.vt_journal.proofs.Reading.{list_of_six}
use Rattle.vt_journal.proofs.parse.read_pair.Goals as goal

pub returns : goal.returns
returns c =
    let name = name_at c.args.geometry.now c.in_ok-page.page in
    let stands = c.in_ok-page.ensures in (
      record { version_inside = omega (arith, c.in_ok-version.ensures.0); page_inside = stands.inside; frame_inside = omega (arith, c.in_ok-frame.ensures.0) },
      list_of_six (fields_of c.args.line.now) c.args.word.now (number_spelling c.in_ok-version.version) (number_spelling name.level)
          (number_spelling name.col) (number_spelling name.row) (number_spelling c.in_ok-frame.frame)
          c.if-not-has_word.ensures c.in_ok-version.ensures.1 stands.level stands.col stands.row c.in_ok-frame.ensures.1 c.if-not-ends_before.ensures,
    )

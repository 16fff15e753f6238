use Rattle.std.proofs.Common.{◌≡◌, ◌∙◌, List, map, ap, sym, subst}
use Rattle.vt_journal.specs.declared.changes.Change.{Change}
use Rattle.vt_journal.specs.Passes.{pass_of}
use Rattle.vt_journal.specs.Texts.{TextView, IsJournalText}
use Rattle.vt_journal.proofs.read.read_text.Goals as goal

pub read_all-requires : goal.read_all-requires
read_all-requires c = record {
  limits = record { limits = c.page_count-pages.ensures.limits; short = c.ranges.height.fits };
  none = c.in_ok-kept.ensures.0;
  pages = c.in_ok-kept.ensures.1 ∙ c.page_count-pages.ensures.pages;
}

pub returns-clause-limits : goal.returns-clause-limits
returns-clause-limits c = c.page_count-pages.ensures.limits

pub returns-clause-read : goal.returns-clause-read
returns-clause-read c =
    let passes = c.in_ok-read.read.passes.items in
    let made : List Change → TextView = λ js. record {
      content = record { pinned = c.in_ok-read.read.pinned; passes = map pass_of passes };
      changes = js;
    } in
    let is : c.from_parts.result ≡ made c.read_all.new.kept.changes = c.from_parts.ensures ∙ ap made c.into_journal.ensures in
    subst (IsJournalText c.args.geometry.now c.args.height c.args.text.now) (sym is) c.in_ok-read.ensures.1

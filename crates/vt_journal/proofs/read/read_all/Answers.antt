use Rattle.std.proofs.Common.{◌∙◌, refl, rules}
use Rattle.vt_journal.proofs.Heading.{head_whole, head_refused}
use Rattle.vt_journal.proofs.Whole.{whole_read}
use Rattle.vt_journal.proofs.read.read_all.Goals as goal

pub read_passes-requires-clause-head : goal.read_passes-requires-clause-head
read_passes-requires-clause-head c =
    let src = c.args.source.now in
    let h = c.in_ok-head.head in
    head_whole src.geometry.now src.height src.text.now c.requires.limits c.read_head.new.kept.changes h.pinned h.pinned h.next.at h.next.number
    c.in_ok-head.ensures.1 c.read_head.new.kept.pages (c.in_ok-head.ensures.0 ∙ c.requires.pages) refl

pub returns-in_err-passes : goal.returns-in_err-passes
returns-in_err-passes c =
    let src = c.args.source.now in
    let h = c.in_ok-head.head in
    search (
      rules,
      head_refused src.geometry.now src.height src.text.now c.requires.limits c.read_head.new.kept.changes h.pinned h.pinned h.next.at h.next.number
          c.in_ok-head.ensures.1 c.in_err-passes.field-0.0 c.in_err-passes.ensures,
    )

pub returns : goal.returns
returns c =
    let src = c.args.source.now in
    let h = c.in_ok-head.head in (
      c.in_ok-passes.ensures.few,
      whole_read src.geometry.now src.height src.text.now c.read_head.new.kept.changes c.read_passes.new.kept.changes h.pinned h.next.at
          h.next.number c.in_ok-passes.passes.items c.in_ok-head.ensures.1 c.in_ok-passes.ensures,
    )

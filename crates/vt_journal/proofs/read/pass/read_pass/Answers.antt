use Rattle.std.proofs.Common.{rules, arith}
use Rattle.vt_journal.specs.declared.passes.PassText.{PassText}
use Rattle.vt_journal.proofs.Passing.{pass_begun, picture_after, events_refused, pass_filled}
use Rattle.vt_journal.proofs.read.pass.read_pass.Goals as goal

pub fill_pass-requires-clause-in_pass : goal.fill_pass-requires-clause-in_pass
fill_pass-requires-clause-in_pass c =
    let src = c.args.source.now in
    let b = c.in_ok-begin.begin in
    let fresh : PassText = record { pass = b.pass; picture = b.picture; start = b.start; events = c.new.result; rows = c.new-2.result } in
    pass_begun src.geometry.now src.height c.args.kept.now.changes c.args.kept.now.pages c.args.pinned c.args.passes c.args.before fresh
    c.requires.awaited c.in_ok-begin.ensures.begun.1
    (picture_after c.args.passes c.args.before b.picture c.requires.awaited.picture c.in_ok-begin.ensures.begun.2) c.new-2.ensures

pub returns-in_err-next-clause-read : goal.returns-in_err-next-clause-read
returns-in_err-next-clause-read c = λ r between.
    let src = c.args.source.now in
    let b = c.in_ok-begin.begin in
    let fresh : PassText = record { pass = b.pass; picture = b.picture; start = b.start; events = c.new.result; rows = c.new-2.result } in
    search (
      rules,
      events_refused src.geometry.now src.height src.text.now r c.args.kept.now.changes c.args.kept.now.changes c.args.passes c.args.before fresh
          fresh between c.new.ensures c.new-2.ensures
          c.args.cursor.at c.args.cursor.number b.next.at b.next.number c.in_err-next.field-0.0 (c.in_ok-begin.ensures.read r between) c.in_err-next.ensures,
    )

pub returns-clause-read : goal.returns-clause-read
returns-clause-read c = λ r between.
    let src = c.args.source.now in
    let b = c.in_ok-begin.begin in
    let fresh : PassText = record { pass = b.pass; picture = b.picture; start = b.start; events = c.new.result; rows = c.new-2.result } in
    let next = c.in_ok-next.next in
    pass_filled src.geometry.now src.height src.text.now r c.args.kept.now.changes c.fill_pass.new.kept.changes c.args.passes c.args.before fresh
    c.fill_pass.new.pass between c.new.ensures c.new-2.ensures
    c.args.cursor.at c.args.cursor.number b.next.at b.next.number next.at next.number (c.in_ok-begin.ensures.read r between) c.in_ok-next.ensures.1
    (omega (
      arith,
      c.in_ok-begin.ensures.begun.1,
      picture_after c.args.passes c.args.before b.picture c.requires.awaited.picture
          c.in_ok-begin.ensures.begun.2,
    ))

use Rattle.std.proofs.Common.{◌≤◌, ◌-◌, arith, subst}
use Rattle.vt_journal.proofs.Reading.{name_is_short, name_is_page, name_read}
use Rattle.vt_pages.specs.Pages.{IsPage, name_at}
use Rattle.vt_journal.proofs.fields.page_at.Goals as goal

pub returns-in_err-level : goal.returns-in_err-level
returns-in_err-level c = rw c.from_residual.ensures (λ page at.
    let s = c.args.geometry.now in
    let is = name_is_page s page c.levels.ensures.limits at.inside in
    let low : (name_at s page).level ≤ c.levels.result - 1 = omega (arith, is.level_inside, c.levels.ensures.levels) in
    c.in_err-level.ensures (name_at s page).level low at.level)

pub returns-in_err-col : goal.returns-in_err-col
returns-in_err-col c = rw c.from_residual-in_err-col.ensures (λ page at.
    let s = c.args.geometry.now in
    c.in_err-col.ensures (name_at s page).col (name_is_short s page c.levels.ensures.limits at.inside).col at.col)

pub returns-in_err-row : goal.returns-in_err-row
returns-in_err-row c = rw c.from_residual-in_err-row.ensures (λ page at.
    let s = c.args.geometry.now in
    c.in_err-row.ensures (name_at s page).row (name_is_short s page c.levels.ensures.limits at.inside).row at.row)

pub returns-then-not-is_page : goal.returns-then-not-is_page
returns-then-not-is_page c = λ page at.
    let s = c.args.geometry.now in
    let e = name_read s c.args.line.now c.args.i page c.in_ok-level.level c.in_ok-col.col c.in_ok-row.row at c.in_ok-level.ensures.1
    c.in_ok-col.ensures.1 c.in_ok-row.ensures.1 in
    c.if-not-is_page.ensures (subst (IsPage s) e (name_is_page s page c.levels.ensures.limits at.inside))

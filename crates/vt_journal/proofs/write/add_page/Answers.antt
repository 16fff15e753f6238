use Rattle.std.proofs.Common.{◌≡◌, ◌++◌, ◌∷◌, [], ap, ◌∙◌}
use Rattle.std.proofs.lemmas.Result.{IfOk-equal}
use Rattle.vt_text.specs.Numbers.{number_spelling}
use Rattle.vt_pages.specs.declared.PageName.{PageName}
use Rattle.vt_pages.specs.Pages.{name_at}
use Rattle.vt_journal.specs.JournalText.{behind_blanks}
use Rattle.vt_journal.proofs.Fronts.{front_of_front, front_of_three, three_fields}
use Rattle.vt_journal.proofs.write.add_page.Goals as goal

pub returns-clause-whole : goal.returns-clause-whole
returns-clause-whole c =
    let old = c.args.text.now.items in
    let level : c.from.result ≡ (name_at c.args.geometry.now c.args.page).level =
    c.from.ensures ∙ ap (λ (n : PageName). n.level) c.page_at-name.ensures.name in
    let col : c.from-2.result ≡ (name_at c.args.geometry.now c.args.page).col =
    c.from-2.ensures ∙ ap (λ (n : PageName). n.col) c.page_at-name.ensures.name in
    let row : c.from-3.result ≡ (name_at c.args.geometry.now c.args.page).row =
    c.from-3.ensures ∙ ap (λ (n : PageName). n.row) c.page_at-name.ensures.name in
    IfOk-equal c.add_number-3.result c.add_number-3.new.text.items _ _ c.add_number-3.ensures.whole
    (three_fields old c.add_number.new.text.items c.add_number-2.new.text.items
    (number_spelling c.from.result) (number_spelling c.from-2.result) (number_spelling c.from-3.result)
    c.in_ok-add_number.ensures.whole c.in_ok-add_number-2.ensures.whole
    ∙ λ i. old ++ behind_blanks (number_spelling (level i) ∷ number_spelling (col i) ∷ number_spelling (row i) ∷ []))

pub returns-clause-front : goal.returns-clause-front
returns-clause-front c =
    front_of_three c.args.text.now.items c.add_number.new.text.items c.add_number-2.new.text.items c.add_number-3.new.text.items
    c.in_ok-add_number.ensures.front c.in_ok-add_number-2.ensures.front c.add_number-3.ensures.front

pub returns-in_err-add_number-2-clause-front : goal.returns-in_err-add_number-2-clause-front
returns-in_err-add_number-2-clause-front c =
    front_of_front c.args.text.now.items c.add_number.new.text.items c.add_number-2.new.text.items
    c.in_ok-add_number.ensures.front c.in_err-add_number-2.ensures.front

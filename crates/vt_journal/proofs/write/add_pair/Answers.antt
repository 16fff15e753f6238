use Rattle.std.proofs.Common.{◌++◌, ◌∷◌, [], ap, ◌∙◌}
use Rattle.std.proofs.lemmas.Result.{IfOk-equal}
use Rattle.vt_text.specs.Numbers.{number_spelling}
use Rattle.vt_pages.specs.Pages.{name_at}
use Rattle.vt_journal.specs.JournalText.{behind_blanks, page_fields}
use Rattle.vt_journal.proofs.Fronts.{front_of_three, five_fields}
use Rattle.vt_journal.proofs.write.add_pair.Goals as goal

pub returns-clause-whole : goal.returns-clause-whole
returns-clause-whole c =
    let old = c.args.text.now.items in
    let name = name_at c.args.geometry.now c.args.page in
    IfOk-equal c.add_number-2.result c.add_number-2.new.text.items _ _ c.add_number-2.ensures.whole
    (five_fields old c.add_number.new.text.items c.add_page.new.text.items (number_spelling c.args.version)
    (number_spelling name.level) (number_spelling name.col) (number_spelling name.row) (number_spelling c.from.result)
    c.in_ok-add_number.ensures.whole c.in_ok-add_page.ensures.whole
    ∙ ap (λ n. old ++ behind_blanks (number_spelling c.args.version ∷ page_fields c.args.geometry.now c.args.page ++ number_spelling n ∷ [])) c.from.ensures)

pub returns-clause-front : goal.returns-clause-front
returns-clause-front c =
    front_of_three c.args.text.now.items c.add_number.new.text.items c.add_page.new.text.items c.add_number-2.new.text.items
    c.in_ok-add_number.ensures.front c.in_ok-add_page.ensures.front c.add_number-2.ensures.front

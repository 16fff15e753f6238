use Rattle.std.proofs.Common.{◌≡◌, ◌≢◌, ℕ, ◌<◌, List, codes, ap, Option, Some, None, slice_get, MatchOption}
use Rattle.vt_text.specs.Numbers.{number_spelling}
use Rattle.vt_text.specs.Lines.{fields_of}
use Rattle.vt_pages.specs.Shape.{Shape}
use Rattle.vt_pages.specs.Pages.{name_at, pages_of}
use Rattle.vt_journal.specs.JournalText.{loss_fields}
use Rattle.vt_journal.specs.JournalReading.{StandsAt}
use Rattle.vt_journal.proofs.Reading.{list_of_four}
use Rattle.vt_journal.proofs.parse.read_loss.Goals as goal

loss_read : (s : Shape) (line : List ℕ) (found : Option ℕ) → slice_get (fields_of line) 0 ≡ Some (codes "lost")
    → slice_get (fields_of line) 4 ≡ None
    → MatchOption found ((page : ℕ) → ¬ StandsAt s line 1 page) (StandsAt s line 1)
    → MatchOption found ((page : ℕ) → page < pages_of s → fields_of line ≢ loss_fields s page) (λ page. (page < pages_of s)
    × (fields_of line ≡ loss_fields s page))
loss_read s line None word end h = λ page inside e. h page (record {
  inside = inside;
  level = ap (λ xs. slice_get xs 1) e;
  col = ap
      (λ xs. slice_get xs 2) e;
  row = ap (λ xs. slice_get xs 3) e;
})
loss_read s line (Some page) word end h = (
  h.inside,
  list_of_four (fields_of line) (codes "lost") (number_spelling (name_at s page).level) (number_spelling (name_at s page).col)
      (number_spelling (name_at s page).row) word h.level h.col h.row end,
)

pub returns : goal.returns
returns c = loss_read c.args.geometry.now c.args.line.now c.page_at.result c.if-not-has_word.ensures c.if-not-ends_before.ensures c.page_at.ensures

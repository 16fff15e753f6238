-- The rows of a pass, read one after another.
use Rattle.std.proofs.Common.{◌≡◌, ◌≢◌, ℕ, ◌+◌, ◌<◌, ◌≤◌, inl, inr, List, [], ◌∷◌, ◌++◌, length, map, get_or, refl, sym, ap, ◌∙◌, subst, arith, append_assoc, length-append, Some, None, slice_get, drop}
use Rattle.std.proofs.lemmas.List.{append-nil, map-append}
use Rattle.vt_pages.specs.Shape.{Shape}
use Rattle.vt_journal.specs.declared.changes.Change.{Change}
use Rattle.vt_journal.specs.declared.changes.Change.TheVariants.{Map, Unmap}
use Rattle.vt_journal.specs.declared.changes.RowLine.{RowLine}
use Rattle.vt_journal.specs.declared.lines.Line.{Line}
use Rattle.vt_journal.specs.declared.lines.Line.TheVariants.{Begins, Makes, Loses, Draws}
use Rattle.vt_journal.specs.declared.passes.PassText.{PassText}
use Rattle.vt_journal.specs.declared.parse.JournalError.{JournalError}
use Rattle.vt_journal.specs.declared.parse.JournalError.TheVariants.{BadLine}
use Rattle.vt_text.specs.Limits.{most_samplers}
use Rattle.vt_journal.specs.JournalFlaws.{Reading, Admits, IsComplete, after, after_all, IsJournalFlawFrom}
use Rattle.vt_journal.specs.JournalText.{line_fields}
use Rattle.vt_text.specs.Lines.{fields_of, lines_of}
use Rattle.vt_journal.specs.JournalReading.{IsCursor, IsLineRead, IsNoLine, Advances, IsJournalRefusal, IsSmall, AreSeen, IsRowInTurn, AreRowsBegun, with_rows, IsNoEvent, IsNoEventAt}
use Rattle.vt_journal.proofs.Stepping.{advance_none, advance_more, refused_later, refused_unread, refused_read, some_lines, line_injective, readable_in_chain}

-- no row was read
pub seen_none : (start : ℕ) (rows : List RowLine) (seen : List ℕ) → rows ≡ [] → length seen ≡ most_samplers
    → ((k : ℕ) → k < most_samplers → get_or seen k 0 ≡ start) → AreSeen start rows seen
seen_none start rows seen none count all = record {
  count = count;
  from = λ k small. omega (arith, all k small);
  most = λ i row is. let e : None ≡ Some row = ap (λ (rs : List RowLine). slice_get rs i) (sym none) ∙ is in cc;
  some = λ k small. inl (all k small);
}

-- a row in turn is a line that may come next
pub row_admitted : (s : Shape) (height : ℕ) (changes : List Change) (pass : PassText) (rows : List RowLine) (seen : List ℕ) (version : ℕ)
    (row : RowLine) → AreRowsBegun s height changes pass rows seen
    → length rows < height → version ≡ length changes → row.sampler < most_samplers → IsRowInTurn (length rows) seen version row
    → Admits s height (with_rows changes pass rows) (Draws row)
row_admitted s height changes pass rows seen version row begun below newest sampler turn = record {
  in_pass = begun.in_pass;
  next = turn.next;
  inside = omega (arith, turn.next);
  sampler = sampler;
  from = omega (arith, begun.seen_are.from row.sampler sampler, turn.rises);
  to = omega (arith, turn.to, newest);
  rises = λ k before at same. omega (arith, begun.seen_are.most k before at, ap (λ j. get_or seen j 0) same, turn.rises);
}

pub admitted_row : (s : Shape) (height : ℕ) (changes : List Change) (pass : PassText) (rows : List RowLine) (seen : List ℕ) (version : ℕ)
    (row : RowLine) → AreRowsBegun s height changes pass rows seen
    → version ≡ length changes → Admits s height (with_rows changes pass rows) (Draws row) → IsRowInTurn (length rows) seen version row
admitted_row s height changes pass rows seen version row begun newest a = record {
  next = a.next;
  rises = elim (begun.seen_are.some row.sampler a.sampler) [
    | inl first ↦ omega (arith, first, a.from)
    | inr (i, q, at, sampler, is) ↦ omega (arith, is, a.rises i q at sampler)
  ];
  to = omega (arith, a.to, newest);
}

module _ (s : Shape) (height : ℕ) (text : List ℕ) (changes : List Change) (pass : PassText) where
  -- a row that was read and may not come next
  pub row_not_read : (rows : List RowLine) (seen : List ℕ) (version : ℕ) (row : RowLine) (at number next_at next_number : ℕ)
      → AreRowsBegun s height changes pass rows seen
      → version ≡ length changes → IsLineRead s text at number (Draws row) next_at next_number → ¬ IsRowInTurn (length rows) seen version row
      → IsJournalFlawFrom s height number (with_rows changes pass rows) (lines_of (drop at text)) (BadLine number)
  row_not_read rows seen version row at number next_at next_number begun newest read never =
      refused_read s height text (with_rows changes pass rows) at number (Draws row) next_at next_number begun.small.tile read
      (λ a. never (admitted_row s height changes pass rows seen version row begun newest a))

  -- the rows are not whole
  incomplete : (rows : List RowLine) → 1 ≤ pass.pass → length rows < height → ¬ IsComplete s height (with_rows changes pass rows)
  incomplete rows in_pass below whole = omega (arith, whole.rows in_pass)

  -- no line where a row is missing
  pub no_row : (rows : List RowLine) (seen : List ℕ) (at number : ℕ) → AreRowsBegun s height changes pass rows seen → length rows < height → IsNoLine s text at
      → IsJournalFlawFrom s height number (with_rows changes pass rows) (lines_of (drop at text)) (BadLine number)
  no_row rows seen at number begun below none =
      refused_unread s height text (with_rows changes pass rows) at number begun.small none (λ _. incomplete rows begun.in_pass below)

  -- another line where a row is missing
  pub other_line : (rows : List RowLine) (seen : List ℕ) (line : Line) (at number next_at next_number : ℕ)
      → AreRowsBegun s height changes pass rows seen → length rows < height
      → IsLineRead s text at number line next_at next_number → ((row : RowLine) → line ≢ Draws row) → (rows ≡ [] → IsNoEventAt s text at)
      → IsJournalFlawFrom s height number (with_rows changes pass rows) (lines_of (drop at text)) (BadLine number)
  other_line rows seen line at number next_at next_number begun below read other none =
      refused_read s height text (with_rows changes pass rows) at number line next_at next_number begun.small.tile read (never line other no_event)
    where
      no_event : rows ≡ [] → IsNoEvent line
      no_event e = none e line read.bytes (lines_of (drop next_at text)) read.cut (some_lines (drop next_at text)) read.says

      never : (line : Line) → ((row : RowLine) → line ≢ Draws row) → (rows ≡ [] → IsNoEvent line) → ¬ Admits s height (with_rows changes pass rows) line
      never (Begins n k v) other quiet a = incomplete rows begun.in_pass below a.0
      never (Makes v (Map p f)) other quiet a = elim a.1.2 [ inl head ↦ omega (arith, head.no_pass, begun.in_pass) | inr before ↦ quiet before.1 ]
      never (Makes v (Unmap p f)) other quiet a = quiet a.1.3.1
      never (Loses p) other quiet a = quiet a.0.1
      never (Draws row) other quiet a = other row refl

-- where no line is read, no event is
pub no_event_unread : (s : Shape) (text : List ℕ) (at : ℕ) → IsNoLine s text at → IsNoEventAt s text at
no_event_unread s text at none l bytes [] cut some says = absurd (some refl)
no_event_unread s text at none l bytes (next ∷ rest) cut some says = absurd (none l bytes next rest cut says)

-- where another line is read, no event is
pub no_event_read : (s : Shape) (text : List ℕ) (at number : ℕ) (line : Line) (next_at next_number : ℕ) → 1 ≤ s.tile
    → IsLineRead s text at number line next_at next_number → IsNoEvent line → IsNoEventAt s text at
no_event_read s text at number line next_at next_number tile read quiet l bytes rest cut some says =
    let both : bytes ∷ rest ≡ read.bytes ∷ lines_of (drop next_at text) = sym cut ∙ read.cut in
    let same_bytes : bytes ≡ read.bytes = cc in
    let fields : line_fields s line ≡ line_fields s l = sym read.says.fields ∙ ap fields_of (sym same_bytes) ∙ says.fields in
    subst IsNoEvent (line_injective s line l tile (readable_in_chain s line read.says.readable) (readable_in_chain s l says.readable) fields) quiet

-- rows after rows
pub after_rows : (r : Reading) (rows : List RowLine)
    → after_all r (map Draws rows) ≡ record { changes = r.changes; passes = r.passes; picture = r.picture; start = r.start; rows = r.rows ++ rows }
after_rows r [] = ap (λ rs. record { changes = r.changes; passes = r.passes; picture = r.picture; start = r.start; rows = rs }) (sym (append-nil r.rows))
after_rows r (row ∷ rows) =
    after_rows (after r (Draws row)) rows
    ∙ ap (λ rs. record { changes = r.changes; passes = r.passes; picture = r.picture; start = r.start; rows = rs }) (append_assoc r.rows (row ∷ []) rows)

module _ (s : Shape) (height : ℕ) (text : List ℕ) (changes : List Change) (pass : PassText) (at number : ℕ) where
  -- the rows so far, and one more
  pub rows_more : (rows : List RowLine) (row : RowLine) (at1 number1 at2 number2 : ℕ)
      → Advances s height text (with_rows changes pass []) at number (map Draws rows) at1 number1
      → Advances s height text (with_rows changes pass rows) at1 number1 (Draws row ∷ []) at2 number2
      → Advances s height text (with_rows changes pass []) at number (map Draws (rows ++ row ∷ [])) at2 number2
  rows_more rows row at1 number1 at2 number2 a b =
      subst (λ (ls : List Line). Advances s height text (with_rows changes pass []) at number ls at2 number2) (sym (map-append Draws rows (row ∷ [])))
      (advance_more s height text (with_rows changes pass []) at number (map Draws rows) (Draws row ∷ []) at1 number1 at2 number2 a
      (subst (λ (r : Reading). Advances s height text r at1 number1 (Draws row ∷ []) at2 number2) (sym (after_rows (with_rows changes pass []) rows)) b))

  pub row_refused_later : (rows : List RowLine) (at1 number1 : ℕ) (e : JournalError)
      → Advances s height text (with_rows changes pass []) at number (map Draws rows) at1 number1
      → IsJournalRefusal s height text (with_rows changes pass rows) at1 number1 e → IsJournalRefusal s height text (with_rows changes pass []) at number e
  row_refused_later rows at1 number1 e a refusal =
      refused_later s height text (with_rows changes pass []) at number (map Draws rows) at1 number1 e a
      (subst (λ (r : Reading). IsJournalRefusal s height text r at1 number1 e) (sym (after_rows (with_rows changes pass []) rows)) refusal)

pub rows_count : (rows after : List RowLine) (row : RowLine) → after ≡ rows ++ row ∷ [] → length after ≡ length rows + 1
rows_count rows after row added = ap (λ rs. length {A = RowLine} rs) added ∙ length-append rows (row ∷ [])

-- the rows begin
pub begun_first : (s : Shape) (height : ℕ) (changes : List Change) (pass : PassText) (rows : List RowLine) (seen : List ℕ)
    → rows ≡ [] → IsSmall s height (with_rows changes pass []) → 1 ≤ pass.pass
    → AreSeen pass.start [] seen → AreRowsBegun s height changes pass rows seen
begun_first s height changes pass rows seen none small in_pass seen_are =
    subst (λ (rs : List RowLine). AreRowsBegun s height changes pass rs seen) (sym none) (record { small = small; in_pass = in_pass; seen_are = seen_are })

-- and go on
pub begun_more : (s : Shape) (height : ℕ) (changes : List Change) (pass : PassText) (rows rows_after : List RowLine) (seen seen_after : List ℕ)
    → AreRowsBegun s height changes pass rows seen
    → AreSeen pass.start rows_after seen_after → AreRowsBegun s height changes pass rows_after seen_after
begun_more s height changes pass rows rows_after seen seen_after begun seen_are = record {
  small = record {
    tile = begun.small.tile;
    short = begun.small.short;
    passes = begun.small.passes;
    picture = begun.small.picture;
    changes = begun.small.changes;
  };
  in_pass = begun.in_pass;
  seen_are = seen_are;
}

pub moved_rows : (s : Shape) (height : ℕ) (text : List ℕ) (changes : List Change) (pass : PassText) (at number : ℕ) (rows rows_after : List RowLine)
    (row : RowLine) (at1 number1 at2 number2 : ℕ) → rows_after ≡ rows ++ row ∷ []
    → Advances s height text (with_rows changes pass []) at number (map Draws rows) at1 number1
    → Advances s height text (with_rows changes pass rows) at1 number1 (Draws row ∷ []) at2 number2
    → Advances s height text (with_rows changes pass []) at number (map Draws rows_after) at2 number2
moved_rows s height text changes pass at number rows rows_after row at1 number1 at2 number2 added a b =
    subst (λ (rs : List RowLine). Advances s height text (with_rows changes pass []) at number (map Draws rs) at2 number2) (sym added)
    (rows_more s height text changes pass at number rows row at1 number1 at2 number2 a b)

-- no rows were read
pub rows_none : (s : Shape) (height : ℕ) (text : List ℕ) (changes : List Change) (pass : PassText) (at number : ℕ) (rows : List RowLine) → rows ≡ []
    → IsCursor text at number
    → Advances s height text (with_rows changes pass []) at number (map Draws rows) at number
rows_none s height text changes pass at number rows none cursor =
    subst (λ (rs : List RowLine). Advances s height text (with_rows changes pass []) at number (map Draws rs) at number) (sym none)
    (advance_none s height text (with_rows changes pass []) at number cursor)

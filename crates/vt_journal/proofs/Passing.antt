-- The passes of a journal, read one after another.
use Rattle.std.proofs.Common.{◌≡◌, ◌≢◌, ℕ, zero, suc, ◌+◌, ◌<◌, ◌≤◌, ◌^◌, ◌⊎◌, inl, inr, List, [], ◌∷◌, ◌++◌, length, map, drop, refl, sym, ap, ◌∙◌, subst, arith, append_assoc, length-append}
use Rattle.std.specs.List.{flat_map}
use Rattle.std.proofs.lemmas.List.{append-nil, map-append, length-drop}
use Rattle.std.proofs.lemmas.List.Concat.{flat_map-append}
use Rattle.vt_text.specs.Limits.{most_versions}
use Rattle.vt_text.specs.Lines.{lines_of}
use Rattle.vt_pages.specs.Shape.{Shape}
use Rattle.vt_journal.specs.declared.changes.Change.{Change}
use Rattle.vt_journal.specs.declared.changes.Change.TheVariants.{Map, Unmap}
use Rattle.vt_journal.specs.declared.changes.RowLine.{RowLine}
use Rattle.vt_journal.specs.declared.lines.Line.{Line}
use Rattle.vt_journal.specs.declared.lines.Line.TheVariants.{Begins, Makes, Loses, Draws}
use Rattle.vt_journal.specs.declared.passes.PassText.{PassText}
use Rattle.vt_journal.specs.declared.parse.JournalError.{JournalError}
use Rattle.vt_journal.specs.declared.parse.JournalError.TheVariants.{BadLine}
use Rattle.vt_journal.specs.Passes.{pass_of}
use Rattle.vt_journal.specs.JournalText.{Pass, changes_of, event_lines, pass_lines, passes_changes}
use Rattle.vt_journal.specs.JournalFlaws.{Reading, Admits, after, after_all, IsComplete, IsNextPicture, IsJournalFlawFrom}
use Rattle.vt_journal.specs.JournalReading.{IsCursor, IsLineRead, IsNoLine, Advances, IsJournalRefusal, IsBetweenPasses, IsNextPassLine, IsInPass, IsAwaited, AreEventsRead, IsPassFilled, IsPassRead, IsHeadWhole, ArePassesRead, IsNoEvent, IsNoEventAt, reading_of, with_rows, head_reading}
use Rattle.vt_journal.proofs.Stepping.{advance_none, advance_more, advance_line, refused_later, refused_unread, refused_read, some_lines, after_all-append}
use Rattle.vt_journal.proofs.Events.{after_events, reading_after, refused_after}
use Rattle.vt_journal.proofs.Rows.{after_rows}

abbrev made : List Change → ℕ → ℕ → ℕ → List RowLine → Reading
made changes passes picture start rows = record { changes = changes; passes = passes; picture = picture; start = start; rows = rows }

-- the numbers of the next pass are a line that may come next
pub begin_admitted : (s : Shape) (height : ℕ) (changes : List Change) (version passes before pass picture start : ℕ) (r : Reading)
    → IsBetweenPasses s height changes passes before r → version ≡ length changes
    → IsNextPassLine version passes before pass picture start → Admits s height r (Begins pass picture start)
begin_admitted s height changes version passes before pass picture start r between newest next = (
  between.complete,
  next.pass_is ∙ ap (λ n. n + 1) (sym between.passes_are),
  subst (λ n. IsNextPicture n r.picture picture) (sym between.passes_are)
      (subst (λ b. IsNextPicture passes b picture) (sym between.picture_is) next.picture_is),
  next.start_is ∙ newest ∙ ap length (sym between.changes_are),
)

pub admitted_begin : (s : Shape) (height : ℕ) (changes : List Change) (version passes before pass picture start : ℕ) (r : Reading)
    → IsBetweenPasses s height changes passes before r → version ≡ length changes
    → Admits s height r (Begins pass picture start) → IsNextPassLine version passes before pass picture start
admitted_begin s height changes version passes before pass picture start r between newest a = record {
  pass_is = a.1 ∙ ap (λ n. n + 1) between.passes_are;
  picture_is = subst (λ n. IsNextPicture n before picture) between.passes_are (subst (λ b. IsNextPicture r.passes b picture) between.picture_is a.2);
  start_is = a.3 ∙ ap length between.changes_are ∙ sym newest;
}

none_or_more : (n : ℕ) → (n ≡ 0) ⊎ (1 ≤ n)
none_or_more zero = inl refl
none_or_more (suc n) = inr (omega arith)

-- between passes no other line may come, where no event stands
only_begin : (s : Shape) (height : ℕ) (r : Reading) (line : Line) → IsComplete s height r
    → ((height ≡ 0) → 1 ≤ r.passes → IsNoEvent line) → ((n k v : ℕ) → line ≢ Begins n k v)
    → Admits s height r line → ⊥
only_begin s height r (Begins n k v) whole quiet other a = other n k v refl
only_begin s height r (Makes v (Map p f)) whole quiet other a =
    elim a.1.2 [
      | inl head ↦ let h = whole.head head.no_pass in omega (arith, h.0, h.1, head.next_page h.0, a.1.0)
      | inr before ↦ quiet (omega (arith, whole.rows before.0, ap length before.1)) before.0
    ]
only_begin s height r (Makes v (Unmap p f)) whole quiet other a = let before = a.1.3 in quiet (omega (arith, whole.rows before.0, ap length before.1)) before.0
only_begin s height r (Loses p) whole quiet other a = let before = a.0 in quiet (omega (arith, whole.rows before.0, ap length before.1)) before.0
only_begin s height r (Draws row) whole quiet other a = omega (arith, a.next, a.inside, whole.rows a.in_pass)

module _ (s : Shape) (height : ℕ) (text : List ℕ) (changes : List Change) (passes before : ℕ) (at number : ℕ) (r : Reading)
    (between : IsBetweenPasses s height changes passes before r) where
  -- no line where the text goes on
  pub no_begin : at < length text → IsNoLine s text at → IsJournalFlawFrom s height number r (lines_of (drop at text)) (BadLine number)
  no_begin more none = refused_unread s height text r at number between.small none (λ e. absurd (omega (arith, length-drop at text, ap length e)))

  -- another line than one that begins a pass
  pub other_than_begin : (line : Line) (next_at next_number : ℕ) → IsLineRead s text at number line next_at next_number → ((n k v : ℕ) → line ≢ Begins n k v)
      → (height ≡ 0 → 1 ≤ passes → IsNoEventAt s text at) → IsJournalFlawFrom s height number r (lines_of (drop at text)) (BadLine number)
  other_than_begin line next_at next_number read other none =
      refused_read s height text r at number line next_at next_number between.small.tile read
      (only_begin s height r line between.complete
      (λ flat some. none flat (omega (arith, some, between.passes_are)) line read.bytes (lines_of (drop next_at text)) read.cut
      (some_lines (drop next_at text)) read.says) other)

  -- the beginning of another pass than the next
  pub other_begin : (version pass picture start next_at next_number : ℕ) → version ≡ length changes
      → IsLineRead s text at number (Begins pass picture start) next_at next_number
      → ¬ IsNextPassLine version passes before pass picture start → IsJournalFlawFrom s height number r (lines_of (drop at text)) (BadLine number)
  other_begin version pass picture start next_at next_number newest read never =
      refused_read s height text r at number (Begins pass picture start) next_at next_number between.small.tile read
      (λ a. never (admitted_begin s height changes version passes before pass picture start r between newest a))

  pub begin_read : (version pass picture start next_at next_number : ℕ) → version ≡ length changes
      → IsLineRead s text at number (Begins pass picture start) next_at next_number
      → IsNextPassLine version passes before pass picture start → Advances s height text r at number (Begins pass picture start ∷ []) next_at next_number
  begin_read version pass picture start next_at next_number newest read next =
      advance_line s height text r at number (Begins pass picture start) next_at next_number read
      (begin_admitted s height changes version passes before pass picture start r between newest next)

-- a pass that has just begun
pub pass_begun : (s : Shape) (height : ℕ) (changes : List Change) (pages pinned passes before : ℕ) (pass : PassText)
    → IsAwaited s height changes pages pinned passes before
    → pass.pass ≡ passes + 1 → pass.picture ≤ passes + 1 → pass.rows.elements ≡ [] → IsInPass s height changes pages pinned pass
pass_begun s height changes pages pinned passes before pass awaited pass_is picture_is none = record {
  small = record {
    tile = awaited.tile;
    short = awaited.short;
    passes = omega (arith, awaited.few_passes, pass_is);
    picture = omega
        (arith, pass_is, picture_is);
    changes = awaited.few_changes;
  };
  some = awaited.some;
  pinned_is = awaited.pinned_is;
  pages_is = awaited.pages_is;
  in_pass = omega (arith, pass_is);
  no_rows = none;
}

pub picture_after : (passes before picture : ℕ) → before ≤ passes → IsNextPicture passes before picture → picture ≤ passes + 1
picture_after passes before picture low next = elim (none_or_more passes) [
  | inl none ↦ omega (arith, next.first none)
  | inr some ↦ elim (next.later some) [ inl same ↦ omega (arith, same) | inr more ↦ omega (arith, more) ]
]

-- a pass: its beginning, its events and its rows
module _ (s : Shape) (height : ℕ) (text : List ℕ) (r : Reading) (old mid : List Change) (passes before : ℕ) (fresh pass : PassText)
    (between : IsBetweenPasses s height old passes before r)
    (no_events : fresh.events.elements ≡ []) (no_rows : fresh.rows.elements ≡ []) where
  -- what was read when the pass has begun
  begun_is : after r (Begins fresh.pass fresh.picture fresh.start) ≡ reading_of old fresh
  begun_is = ap (λ cs. made cs fresh.pass fresh.picture fresh.start []) between.changes_are
      ∙ ap (λ rs. made old fresh.pass fresh.picture fresh.start rs) (sym no_rows)

  -- a refusal among its events
  pub events_refused : (at number at1 number1 : ℕ) (e : JournalError)
      → Advances s height text r at number (Begins fresh.pass fresh.picture fresh.start ∷ []) at1 number1
      → IsJournalRefusal s height text (reading_of old fresh) at1 number1 e → IsJournalRefusal s height text r at number e
  events_refused at number at1 number1 e begin refusal =
      refused_later s height text r at number (Begins fresh.pass fresh.picture fresh.start ∷ []) at1 number1 e begin
      (subst (λ (r : Reading). IsJournalRefusal s height text r at1 number1 e) (sym begun_is) refusal)

  -- the beginning and the events
  pub begin_and_events : (at number at1 number1 at2 number2 : ℕ)
      → Advances s height text r at number (Begins fresh.pass fresh.picture fresh.start ∷ []) at1 number1
      → (a : AreEventsRead s height text old mid fresh pass at1 number1 at2 number2)
      → Advances s height text r at number (Begins fresh.pass fresh.picture fresh.start ∷ event_lines (length old) a.events) at2 number2
  begin_and_events at number at1 number1 at2 number2 begin a =
      advance_more s height text r at number (Begins fresh.pass fresh.picture fresh.start ∷ []) (event_lines (length old) a.events) at1 number1 at2
      number2 begin
      (subst (λ (r : Reading). Advances s height text r at1 number1 (event_lines (length old) a.events) at2 number2) (sym begun_is) a.advances)

  -- what was read then
  pub spelled_is : (at1 number1 at2 number2 : ℕ) → (a : AreEventsRead s height text old mid fresh pass at1 number1 at2 number2)
      → after_all (after r (Begins fresh.pass fresh.picture fresh.start)) (event_lines (length old) a.events) ≡ with_rows mid pass []
  spelled_is at1 number1 at2 number2 a =
      ap (λ (x : Reading). after_all x (event_lines (length old) a.events)) begun_is
      ∙ sym (reading_after s height text old mid fresh pass at1 number1 at2 number2 a)
      ∙ ap (λ rs. made mid pass.pass pass.picture pass.start rs) (a.same.rows ∙ no_rows)

  -- all of it
  pub pass_read : (at number at1 number1 at2 number2 at3 number3 : ℕ) (rows : List RowLine) (whole : PassText)
      → Advances s height text r at number (Begins fresh.pass fresh.picture fresh.start ∷ []) at1 number1
      → AreEventsRead s height text old mid fresh pass at1 number1 at2 number2
      → Advances s height text (with_rows mid pass []) at2 number2 (map Draws rows) at3 number3
      → length rows ≡ height → (height ≡ 0 → IsNoEventAt s text at3) → length mid ≤ most_versions → fresh.picture ≤ fresh.pass
      → whole.pass ≡ pass.pass → whole.picture ≡ pass.picture → whole.start ≡ pass.start → whole.events.elements ≡ pass.events.elements
      → whole.rows.elements ≡ rows
      → IsPassRead s height text r old mid passes whole at number at3 number3
  pass_read at number at1 number1 at2 number2 at3 number3 rows whole begin a drawn count quiet few low wp wk wv we wr =
      let events : whole.events.elements ≡ a.events = we ∙ a.added ∙ ap (λ es. es ++ a.events) no_events in
      let start : fresh.start ≡ length old = begin.admitted.0.3 ∙ ap length between.changes_are in
      let lines : (Begins fresh.pass fresh.picture fresh.start ∷ event_lines (length old) a.events) ++ map Draws rows ≡ pass_lines (pass_of whole) =
      ap (λ v. Begins fresh.pass fresh.picture fresh.start ∷ event_lines v a.events ++ map Draws rows) (sym start)
      ∙ ap (λ es. Begins fresh.pass fresh.picture fresh.start ∷ event_lines fresh.start es ++ map Draws rows) (sym events)
      ∙ ap (λ rs. Begins fresh.pass fresh.picture fresh.start ∷ event_lines fresh.start whole.events.elements ++ map Draws rs) (sym wr)
      ∙ ap (λ n. Begins n fresh.picture fresh.start ∷ event_lines fresh.start whole.events.elements ++ map Draws whole.rows.elements) (sym (wp ∙ a.same.pass))
      ∙ ap (λ k. Begins whole.pass k fresh.start ∷ event_lines fresh.start whole.events.elements ++ map Draws whole.rows.elements) (sym (wk ∙ a.same.picture))
      ∙ ap (λ v. Begins whole.pass whole.picture v ∷ event_lines v whole.events.elements ++ map Draws whole.rows.elements) (sym (wv ∙ a.same.start)) in
      let all : Advances s height text r at number ((Begins fresh.pass fresh.picture fresh.start ∷ event_lines (length old) a.events)
      ++ map Draws rows) at3 number3 =
      advance_more s height text r at number (Begins fresh.pass fresh.picture fresh.start ∷ event_lines (length old) a.events) (map Draws rows) at2
      number2 at3 number3 (begin_and_events at number at1 number1 at2 number2 begin a)
      (subst (λ (r : Reading). Advances s height text r at2 number2 (map Draws rows) at3 number3) (sym (spelled_is at1 number1 at2 number2 a)) drawn) in
      let moved = subst (λ (ls : List Line). Advances s height text r at number ls at3 number3) lines all in
      record {
        changes_are = a.changes_are ∙ ap (λ es. old ++ changes_of es) (sym events);
        few = few;
        pass_is = wp ∙ a.same.pass ∙ begin.admitted.0.1 ∙ ap (λ n. n + 1) between.passes_are;
        picture_is = omega (arith, wp, wk, a.same.pass, a.same.picture, low);
        rows_are = ap length wr ∙ count;
        no_event = quiet;
        forward = omega (arith, begin.forward, a.advances.forward, drawn.forward);
        advances = moved;
      }

no_rows_left : (rows : List RowLine) → length rows ≡ 0 → rows ≡ []
no_rows_left [] e = refl
no_rows_left (row ∷ rows) e = absurd (omega (arith, e))

-- a pass, by what was read between its first line and its end
pub pass_filled : (s : Shape) (height : ℕ) (text : List ℕ) (r : Reading) (old mid : List Change) (passes before : ℕ) (fresh pass : PassText)
    → IsBetweenPasses s height old passes before r → fresh.events.elements ≡ [] → fresh.rows.elements ≡ []
    → (at number at1 number1 at2 number2 : ℕ) → Advances s height text r at number (Begins fresh.pass fresh.picture fresh.start ∷ []) at1 number1
    → IsPassFilled s height text old mid fresh pass at1 number1 at2 number2 → fresh.picture ≤ fresh.pass
    → IsPassRead s height text r old mid passes pass at number at2 number2
pass_filled s height text r old mid passes before fresh pass between no_events no_rows at number at1 number1 at2 number2 begin filled low =
    let rows = pass.rows.elements in
    pass_read s height text r old mid passes before fresh filled.middle between no_events no_rows at number at1 number1 filled.rows_at
    filled.rows_number at2 number2 rows pass begin filled.events filled.rows.advances filled.rows.count
    (λ flat. filled.rows.no_event (no_rows_left rows (filled.rows.count ∙ flat))) filled.few low
    filled.same.pass filled.same.picture filled.same.start filled.same.events refl

-- a refusal among the rows of a pass that had none
pub rows_refused : (s : Shape) (height : ℕ) (text : List ℕ) (old mid : List Change) (fresh pass : PassText) (at number at1 number1 : ℕ)
    (e : JournalError) → fresh.rows.elements ≡ [] → AreEventsRead s height text old mid fresh pass at number at1 number1
    → IsJournalRefusal s height text (with_rows mid pass []) at1 number1 e → IsJournalRefusal s height text (reading_of old fresh) at number e
rows_refused s height text old mid fresh pass at number at1 number1 e no_rows a refusal =
    refused_after s height text old mid fresh pass at number at1 number1 e a
    (subst (λ (rs : List RowLine). IsJournalRefusal s height text (with_rows mid pass rs) at1 number1 e) (sym (a.same.rows ∙ no_rows)) refusal)

-- what a pass tells
pub after_pass : (r : Reading) (pass : PassText)
    → after_all r (pass_lines (pass_of pass)) ≡ made (r.changes ++ changes_of pass.events.elements) pass.pass pass.picture pass.start pass.rows.elements
after_pass r pass =
    let b = after r (Begins pass.pass pass.picture pass.start) in
    after_all-append b (event_lines pass.start pass.events.elements) (map Draws pass.rows.elements)
    ∙ ap (λ (x : Reading). after_all x (map Draws pass.rows.elements)) (after_events b pass.start pass.events.elements)
    ∙ after_rows (made (r.changes ++ changes_of pass.events.elements) pass.pass pass.picture pass.start []) pass.rows.elements

-- a pass more
lines_more : (ps : List PassText) (p : PassText)
    → flat_map pass_lines (map pass_of ps) ++ pass_lines (pass_of p) ≡ flat_map pass_lines (map pass_of (ps ++ p ∷ []))
lines_more ps p =
    ap (λ x. flat_map pass_lines (map pass_of ps) ++ x) (sym (append-nil (pass_lines (pass_of p))))
    ∙ sym (flat_map-append pass_lines (map pass_of ps) (pass_of p ∷ []))
    ∙ ap (flat_map pass_lines) (sym (map-append pass_of ps (p ∷ [])))

changes_more : (ps : List PassText) (p : PassText)
    → passes_changes (map pass_of ps) ++ changes_of p.events.elements ≡ passes_changes (map pass_of (ps ++ p ∷ []))
changes_more ps p =
    let f : Pass → List Change = λ (pass : Pass). changes_of pass.events in
    ap (λ x. passes_changes (map pass_of ps) ++ x) (sym (append-nil (changes_of p.events.elements)))
    ∙ sym (flat_map-append f (map pass_of ps) (pass_of p ∷ []))
    ∙ ap (flat_map f) (sym (map-append pass_of ps (p ∷ [])))

pub passes_more : (s : Shape) (height : ℕ) (text : List ℕ) (first before last : List Change) (passes : List PassText) (pass : PassText)
    (picture at number at1 number1 at2 number2 : ℕ)
    → ArePassesRead s height text first before passes picture at number at1 number1
    → ((r : Reading) → IsBetweenPasses s height before (length passes) picture r
    → IsPassRead s height text r before last (length passes) pass at1 number1 at2 number2)
    → length passes + 2 < 2 ^ 32
    → ArePassesRead s height text first last (passes ++ pass ∷ []) pass.picture at number at2 number2
passes_more s height text first before last passes pass picture at number at1 number1 at2 number2 so_far next few =
    let ls = flat_map pass_lines (map pass_of passes) in
    let r = after_all (head_reading first) ls in
    let read : IsPassRead s height text r before last (length passes) pass at1 number1 at2 number2 = next r so_far.between in
    let all = lines_more passes pass in
    let count = length-append passes (pass ∷ []) in
    let spelled : after_all (head_reading first) (flat_map pass_lines (map pass_of (passes
    ++ pass ∷ []))) ≡ made last pass.pass pass.picture pass.start pass.rows.elements =
    ap (after_all (head_reading first)) (sym all) ∙ after_all-append (head_reading first) ls (pass_lines (pass_of pass))
    ∙ after_pass r pass
    ∙ ap (λ cs. made (cs ++ changes_of pass.events.elements) pass.pass pass.picture pass.start pass.rows.elements) so_far.between.changes_are
    ∙ ap (λ cs. made cs pass.pass pass.picture pass.start pass.rows.elements) (sym read.changes_are) in
    record {
      changes_are = read.changes_are ∙ ap (λ cs. cs ++ changes_of pass.events.elements) so_far.changes_are
          ∙ append_assoc first (passes_changes (map pass_of passes)) (changes_of pass.events.elements)
          ∙ ap (λ cs. first ++ cs) (changes_more passes pass);
      advances = subst (λ (ls : List Line). Advances s height text (head_reading first) at number ls at2 number2) all
          (advance_more s height text (head_reading first) at number ls (pass_lines (pass_of pass)) at1 number1 at2 number2 so_far.advances read.advances);
      between = subst (λ (r : Reading). IsBetweenPasses s height last (length (passes ++ pass ∷ [])) pass.picture r) (sym spelled) (record {
        small = record {
          tile = so_far.between.small.tile;
          short = so_far.between.small.short;
          passes = omega (arith, read.pass_is, few);
          picture = read.picture_is;
          changes = read.few;
        };
        changes_are = refl;
        passes_are = read.pass_is ∙ sym count;
        picture_is = refl;
        complete = record { head = λ none. absurd (omega (arith, read.pass_is, none)); rows = λ some. read.rows_are };
      });
    }

-- the head is whole, and no pass was read
pub no_pass : (s : Shape) (height : ℕ) (text : List ℕ) (changes : List Change) (pages pinned at number : ℕ)
    → IsHeadWhole s height changes pages pinned → IsCursor text at number
    → ArePassesRead s height text changes changes [] 0 at number at number
no_pass s height text changes pages pinned at number head cursor = record {
  changes_are = sym (append-nil changes);
  advances = advance_none s height text (head_reading changes) at number cursor;
  between = record {
    small = head.small;
    changes_are = refl;
    passes_are = refl;
    picture_is = refl;
    complete = record { head = λ none. (head.some, head.whole); rows = λ some. absurd (omega (arith, some)) };
  };
}

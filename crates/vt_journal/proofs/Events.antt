-- The events of a pass, read one after another.
use Rattle.std.proofs.Common.{◌≡◌, ◌≢◌, ℕ, ◌+◌, ◌≤◌, inr, List, [], ◌∷◌, ◌++◌, length, refl, sym, ap, ◌∙◌, subst, arith, append_assoc, length-append, None, drop}
use Rattle.std.proofs.lemmas.List.{append-nil}
use Rattle.vt_text.specs.Limits.{most_versions}
use Rattle.vt_pages.specs.Shape.{Shape}
use Rattle.vt_journal.specs.declared.changes.Change.{Change}
use Rattle.vt_journal.specs.declared.changes.Change.TheVariants.{Map, Unmap}
use Rattle.vt_journal.specs.declared.changes.Event.{Event}
use Rattle.vt_journal.specs.declared.changes.Event.TheVariants.{Changed, Lost}
use Rattle.vt_journal.specs.declared.changes.RowLine.{RowLine}
use Rattle.vt_journal.specs.declared.lines.Line.{Line}
use Rattle.vt_journal.specs.declared.lines.Line.TheVariants.{Makes, Loses}
use Rattle.vt_journal.specs.declared.passes.PassText.{PassText}
use Rattle.vt_journal.specs.declared.parse.JournalError.{JournalError}
use Rattle.vt_journal.specs.declared.parse.JournalError.TheVariants.{BadLine}
use Rattle.vt_text.specs.Lines.{lines_of}
use Rattle.vt_journal.specs.Changes.{newest}
use Rattle.vt_journal.specs.Kept.{KeptView}
use Rattle.vt_journal.specs.JournalText.{changes_of, event_lines}
use Rattle.vt_journal.specs.JournalFlaws.{Reading, Admits, after, after_all, pinned_by, IsJournalFlawFrom}
use Rattle.vt_journal.specs.JournalReading.{IsReadable, IsLineRead, Advances, IsJournalRefusal, IsEventChange, IsInPass, IsEventAdded, AreSameButEvents, AreEventsRead, reading_of}
use Rattle.vt_journal.proofs.EventLines.{changes_of-append, event_lines-append}
use Rattle.vt_journal.proofs.Stepping.{advance_line, advance_more, refused_later, refused_read}

abbrev made : List Change → ℕ → ℕ → ℕ → List RowLine → Reading
made changes passes picture start rows = record { changes = changes; passes = passes; picture = picture; start = start; rows = rows }

-- what events tell
pub after_events : (r : Reading) (v : ℕ) (es : List Event)
    → after_all r (event_lines v es) ≡ made (r.changes ++ changes_of es) r.passes r.picture r.start r.rows
after_events r v [] = ap (λ cs. made cs r.passes r.picture r.start r.rows) (sym (append-nil r.changes))
after_events r v (Changed c ∷ es) =
    after_events (after r (Makes (v + 1) c)) (v + 1) es
    ∙ ap (λ cs. made cs r.passes r.picture r.start r.rows) (append_assoc r.changes (c ∷ []) (changes_of es))
after_events r v (Lost p ∷ es) = after_events r v es

pub same_reading : (changes : List Change) (p q : PassText) → AreSameButEvents p q → reading_of changes q ≡ reading_of changes p
same_reading changes p q same =
    ap (λ x. made changes x q.picture q.start q.rows.elements) same.pass
    ∙ ap (λ x. made changes p.pass x q.start q.rows.elements) same.picture
    ∙ ap (λ x. made changes p.pass p.picture x q.rows.elements) same.start
    ∙ ap (λ x. made changes p.pass p.picture p.start x) same.rows

-- the first change decides which pages are pinned
pub pinned_stays : (s : Shape) (js ks : List Change) → 1 ≤ length js → pinned_by s (js ++ ks) ≡ pinned_by s js
pinned_stays s [] ks some = absurd (omega arith)
pinned_stays s (j ∷ js) ks some = refl

-- a change that may come among the events is a line that may come next
pub change_admitted : (s : Shape) (height : ℕ) (changes : List Change) (pages pinned : ℕ) (pass : PassText) (v : ℕ) (c : Change)
    → IsInPass s height changes pages pinned pass → IsReadable s (Makes v c)
    → IsEventChange s changes pinned v c → Admits s height (reading_of changes pass) (Makes v c)
change_admitted s height changes pages pinned pass v (Map p f) is read
    may = (may.version_is, (read.page_inside, read.frame_inside, inr (is.in_pass, is.no_rows)), may.next)
change_admitted s height changes pages pinned pass v (Unmap p f) is read may =
    (may.version_is, (read.page_inside, read.frame_inside, omega (arith, may.unpinned, is.pinned_is), (is.in_pass, is.no_rows)), may.next)

pub admitted_change : (s : Shape) (height : ℕ) (changes : List Change) (pages pinned : ℕ) (pass : PassText) (v : ℕ) (c : Change)
    → IsInPass s height changes pages pinned pass
    → Admits s height (reading_of changes pass) (Makes v c) → IsEventChange s changes pinned v c
admitted_change s height changes pages pinned pass v (Map p f) is a = record { version_is = a.0; unpinned = tt; next = a.2 }
admitted_change s height changes pages pinned pass v (Unmap p f) is a = record { version_is = a.0; unpinned = omega (arith, a.1.2, is.pinned_is); next = a.2 }

module _ (s : Shape) (height : ℕ) (text : List ℕ) where
  -- a change that was read
  pub change_read : (before after : KeptView) (pages pinned : ℕ) (pass pass_after : PassText) (at number v : ℕ) (c : Change) (next_at next_number : ℕ)
      → IsInPass s height before.changes pages pinned pass → IsLineRead s text at number (Makes v c) next_at next_number
      → IsEventChange s before.changes pinned v c
      → IsEventAdded before after pass pass_after (Changed c)
      → AreEventsRead s height text before.changes after.changes pass pass_after at number next_at next_number
  change_read before after pages pinned pass pass_after at number v c next_at next_number is read may added = record {
    events = Changed c ∷ [];
    added = added.added;
    changes_are = added.changes_are;
    same = added.same;
    advances = subst (λ v. Advances s height text (reading_of before.changes pass) at number (Makes v c ∷ []) next_at next_number) may.version_is
        (advance_line s height text (reading_of before.changes pass) at number (Makes v c) next_at next_number read
        (change_admitted s height before.changes pages pinned pass v c is read.says.readable may));
  }

  -- a change that was read and may not come there
  pub change_not_read : (changes : List Change) (pages pinned : ℕ) (pass : PassText) (at number v : ℕ) (c : Change) (next_at next_number : ℕ)
      → IsInPass s height changes pages pinned pass → IsLineRead s text at number (Makes v c) next_at next_number → ¬ IsEventChange s changes pinned v c
      → IsJournalFlawFrom s height number (reading_of changes pass) (lines_of (drop at text)) (BadLine number)
  change_not_read changes pages pinned pass at number v c next_at next_number is read never =
      refused_read s height text (reading_of changes pass) at number (Makes v c) next_at next_number is.small.tile read
      (λ a. never (admitted_change s height changes pages pinned pass v c is a))

  -- a lost page that was read and is mapped
  pub loss_not_read : (changes : List Change) (pages pinned : ℕ) (pass : PassText) (at number p : ℕ) (next_at next_number : ℕ)
      → IsInPass s height changes pages pinned pass → IsLineRead s text at number (Loses p) next_at next_number → newest changes p ≢ None
      → IsJournalFlawFrom s height number (reading_of changes pass) (lines_of (drop at text)) (BadLine number)
  loss_not_read changes pages pinned pass at number p next_at next_number is read mapped =
      refused_read s height text (reading_of changes pass) at number (Loses p) next_at next_number is.small.tile read (λ a. mapped a.2)

  -- a lost page that was read
  pub loss_read : (before after : KeptView) (pages pinned : ℕ) (pass pass_after : PassText) (at number p : ℕ) (next_at next_number : ℕ)
      → IsInPass s height before.changes pages pinned pass → IsLineRead s text at number (Loses p) next_at next_number → newest before.changes p ≡ None
      → IsEventAdded before after pass pass_after (Lost p) → AreEventsRead s height text before.changes after.changes pass pass_after at number
      next_at next_number
  loss_read before after pages pinned pass pass_after at number p next_at next_number is read none added = record {
    events = Lost p ∷ [];
    added = added.added;
    changes_are = added.changes_are;
    same = added.same;
    advances = advance_line s height text (reading_of before.changes pass) at number (Loses p) next_at next_number read
        ((is.in_pass, is.no_rows), read.says.readable, none);
  }

  -- what was read after events
  pub reading_after : (before mid : List Change) (pass pass_mid : PassText) (at number at1 number1 : ℕ)
      → (a : AreEventsRead s height text before mid pass pass_mid at number at1 number1)
      → reading_of mid pass_mid ≡ after_all (reading_of before pass) (event_lines (length before) a.events)
  reading_after before mid pass pass_mid at number at1 number1 a =
      same_reading mid pass pass_mid a.same
      ∙ ap (λ cs. made cs pass.pass pass.picture pass.start pass.rows.elements) a.changes_are
      ∙ sym (after_events (reading_of before pass) (length before) a.events)

  -- events after events
  pub events_more : (before mid last : List Change) (pass pass_mid pass_last : PassText) (at number at1 number1 at2 number2 : ℕ)
      → AreEventsRead s height text before mid pass pass_mid at number at1 number1
      → AreEventsRead s height text mid last pass_mid pass_last at1 number1 at2 number2
      → AreEventsRead s height text before last pass pass_last at number at2 number2
  events_more before mid last pass pass_mid pass_last at number at1 number1 at2 number2 a b =
      let count : length mid ≡ length before + length (changes_of a.events) = ap length a.changes_are ∙ length-append before (changes_of a.events) in
      let lines : event_lines (length before) a.events ++ event_lines (length mid) b.events ≡ event_lines (length before) (a.events ++ b.events) =
      ap (λ v. event_lines (length before) a.events ++ event_lines v b.events) count ∙ sym (event_lines-append (length before) a.events b.events) in
      let rest : Advances s height text (after_all (reading_of before pass) (event_lines (length before) a.events)) at1 number1
      (event_lines (length mid) b.events) at2 number2 =
      subst (λ (r : Reading). Advances s height text r at1 number1 (event_lines (length mid) b.events) at2 number2)
      (reading_after before mid pass pass_mid at number at1 number1 a) b.advances in
      record {
        events = a.events ++ b.events;
        added = b.added ∙ ap (λ x. x ++ b.events) a.added ∙ append_assoc pass.events.elements a.events b.events;
        changes_are = b.changes_are ∙ ap (λ x. x ++ changes_of b.events) a.changes_are
            ∙ append_assoc before (changes_of a.events) (changes_of b.events)
            ∙ ap (λ x. before ++ x) (sym (changes_of-append a.events b.events));
        same = record {
          pass = b.same.pass ∙ a.same.pass;
          picture = b.same.picture ∙ a.same.picture;
          start = b.same.start
              ∙ a.same.start;
          rows = b.same.rows ∙ a.same.rows;
        };
        advances = subst (λ (ls : List Line). Advances s height text (reading_of before pass) at number ls at2 number2) lines
            (advance_more s height text (reading_of before pass) at number (event_lines (length before) a.events) (event_lines (length mid) b.events)
            at1 number1 at2 number2 a.advances rest);
      }

  -- a refusal after events
  pub refused_after : (before mid : List Change) (pass pass_mid : PassText) (at number at1 number1 : ℕ) (e : JournalError)
      → AreEventsRead s height text before mid pass pass_mid at number at1 number1
      → IsJournalRefusal s height text (reading_of mid pass_mid) at1 number1 e → IsJournalRefusal s height text (reading_of before pass) at number e
  refused_after before mid pass pass_mid at number at1 number1 e a refusal =
      refused_later s height text (reading_of before pass) at number (event_lines (length before) a.events) at1 number1 e a.advances
      (subst (λ (r : Reading). IsJournalRefusal s height text r at1 number1 e) (reading_after before mid pass pass_mid at number at1 number1 a) refusal)

  -- a pass stays without rows
  pub in_pass_still : (before mid : List Change) (pages pages_mid pinned : ℕ) (pass pass_mid : PassText) (at number at1 number1 : ℕ)
      → AreEventsRead s height text before mid pass pass_mid at number at1 number1
      → pages_mid ≡ pages → length mid ≤ most_versions → IsInPass s height before pages pinned pass → IsInPass s height mid pages_mid pinned pass_mid
  in_pass_still before mid pages pages_mid pinned pass pass_mid at number at1 number1 a same few is = record {
    small = record {
      tile = is.small.tile;
      short = is.small.short;
      passes = omega (arith, is.small.passes, a.same.pass);
      picture = omega
          (arith, is.small.picture, a.same.pass, a.same.picture);
      changes = few;
    };
    some = omega (arith, is.some, ap length a.changes_are, length-append before (changes_of a.events));
    pinned_is = is.pinned_is ∙ sym (pinned_stays s before (changes_of a.events) is.some) ∙ ap (pinned_by s) (sym a.changes_are);
    pages_is = same ∙ is.pages_is;
    in_pass = omega (arith, is.in_pass, a.same.pass);
    no_rows = a.same.rows ∙ is.no_rows;
  }

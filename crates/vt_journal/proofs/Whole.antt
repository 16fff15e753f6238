-- The whole text of a journal.
use Rattle.std.proofs.Common.{◌≡◌, ℕ, ◌≤◌, ◌⊎◌, inl, inr, List, [], ◌∷◌, ◌++◌, map, sym, ap, ◌∙◌, subst, append_assoc, Result, Ok, Err, MatchResult}
use Rattle.std.specs.List.{flat_map}
use Rattle.std.proofs.lemmas.List.{map-append}
use Rattle.vt_text.specs.Lines.{lines_of}
use Rattle.vt_pages.specs.Shape.{Shape}
use Rattle.vt_journal.specs.declared.changes.Change.{Change}
use Rattle.vt_journal.specs.declared.passes.PassText.{PassText}
use Rattle.vt_journal.specs.declared.parse.JournalError.{JournalError}
use Rattle.vt_journal.specs.declared.parse.JournalError.TheVariants.{NoMemory}
use Rattle.vt_journal.specs.Passes.{pass_of}
use Rattle.vt_journal.specs.JournalText.{Content, pass_lines, passes_changes, content_lines, journal_text}
use Rattle.vt_journal.specs.JournalFlaws.{Reading, nothing_read, AreAdmitted, after_all, IsComplete, IsLawfulJournal, IsJournalFlaw}
use Rattle.vt_journal.specs.JournalReading.{IsHeadBegun, AreAllPassesRead, line_bytes}
use Rattle.vt_journal.specs.Texts.{TextView, IsJournalText}
use Rattle.vt_journal.proofs.SpelledLines.{text_of-lines}
use Rattle.vt_journal.proofs.Stepping.{admitted-append, after_all-append}
use Rattle.vt_journal.proofs.Heading.{lines_to, spelled_heads}
use Rattle.vt_journal.proofs.Contents.{text_of_content, content_unique, lawful_has_no_flaw, journal_flaw_unique}

pub whole_read : (s : Shape) (height : ℕ) (text : List ℕ) (first last : List Change) (pinned at number : ℕ) (passes : List PassText)
    → IsHeadBegun s height text first pinned pinned at number
    → AreAllPassesRead s height text first last passes at → IsJournalText s height text
    (record { content = record { pinned = pinned; passes = map pass_of passes }; changes = last })
whole_read s height text first last pinned at number passes head read =
    let content : Content = record { pinned = pinned; passes = map pass_of passes } in
    let heads = lines_to s pinned pinned in
    let rest = flat_map pass_lines (map pass_of passes) in
    let lines : lines_of text ≡ map (line_bytes s) (content_lines s content) ++ ([] ∷ []) =
    head.advances.spelled ∙ ap (λ x. map (line_bytes s) heads ++ x) read.spelled
    ∙ sym (append_assoc (map (line_bytes s) heads) (map (line_bytes s) rest) ([] ∷ []))
    ∙ ap (λ x. x ++ ([] ∷ [])) (sym (map-append (line_bytes s) heads rest)) in
    let said = spelled_heads s pinned pinned first head.changes_are in
    record {
      spelled = text_of-lines s text (content_lines s content) lines ∙ sym (text_of_content s content);
      lawful = record {
        admitted = admitted-append s height nothing_read heads rest head.advances.admitted
            (subst (λ (r : Reading). AreAdmitted s height r rest) (sym said) read.admitted);
        complete = subst (IsComplete s height) (sym (after_all-append nothing_read heads rest ∙ ap (λ (r : Reading). after_all r rest) said)) read.complete;
      };
      changes_are = read.changes_are ∙ ap (λ cs. cs ++ passes_changes (map pass_of passes)) head.changes_are;
    }

-- what the reading finds decides its answer
pub formed : (s : Shape) (height : ℕ) (text : List ℕ) (result : Result TextView JournalError) → 1 ≤ s.tile
    → MatchResult result (IsJournalText s height text) (λ e. (e ≡ NoMemory) ⊎ IsJournalFlaw s height text e)
    → (content : Content) → IsLawfulJournal s height content → text ≡ journal_text s content → MatchResult result (λ j. j.content ≡ content) (λ e. e ≡ NoMemory)
formed s height text (Ok j) tile found content lawful same =
    content_unique s height j.content content tile found.lawful lawful (sym found.spelled ∙ same)
formed s height text (Err e) tile (inl memory) content lawful same = memory
formed s height text (Err e) tile (inr flaw) content lawful same = absurd (lawful_has_no_flaw s height text content e tile lawful same flaw)

pub faulty : (s : Shape) (height : ℕ) (text : List ℕ) (result : Result TextView JournalError) → 1 ≤ s.tile
    → MatchResult result (IsJournalText s height text) (λ e. (e ≡ NoMemory) ⊎ IsJournalFlaw s height text e)
    → (f : JournalError) → IsJournalFlaw s height text f → (result ≡ Err f) ⊎ (result ≡ Err NoMemory)
faulty s height text (Ok j) tile found f flaw = absurd (lawful_has_no_flaw s height text j.content f tile found.lawful found.spelled flaw)
faulty s height text (Err e) tile (inl memory) f flaw = inr (ap Err memory)
faulty s height text (Err e) tile (inr other) f flaw = inl (ap Err (journal_flaw_unique s height text e f tile other flaw))

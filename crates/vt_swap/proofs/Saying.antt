-- What a log says it says however it grows.
use Rattle.std.proofs.Common.{◌≡◌, ℕ, suc, ◌+◌, ◌≤◌, false, List, length, sym, ap, ◌∙◌, subst, arith}
use Rattle.std.specs.Prelude.{Option, Some, None, IfSome}
use mathlib.Core.List.{IsPrefix}
use Rattle.vt_pictures.specs.DrawLookups.{Note, EntryNote, WordNote}
use Rattle.vt_journal.specs.declared.changes.Change.{Change}
use Rattle.vt_journal.specs.Changes.{Table, at}
use Rattle.vt_journal.specs.Kept.{entry_of}
use Rattle.vt_journal.proofs.Versions.{at-front}
use Rattle.vt_swap_steps.specs.LogTypes.records.LogRecord.{LogRecord}
use Rattle.vt_swap_steps.specs.declared.table.NewestTable.{NewestTable}
use Rattle.vt_swap_steps.specs.Logs.{changes_in}
use Rattle.vt_swap_steps.specs.LogWords.{HasWord, IsEntry}
use Rattle.vt_swap.specs.Notes.{IsWord, IsSaidBy}
use Rattle.vt_pages.specs.Pages.{ancestor_of}
use Rattle.vt_pictures.specs.DrawTypes.lookups.Found.{Found}
use Rattle.vt_pictures.specs.DrawLookups.{IsFinestFound}
use Rattle.vt_swap.specs.Readers.{LookupView, IsLookup, IsSaidIn}
use Rattle.vt_swap_steps.proofs.Prefixes.{prefix_get, prefix_length}
use Rattle.vt_swap_steps.proofs.Lawful.{changes_prefix}

-- the versions of a beginning of a journal are those of the journal
at_prefix : (js ks : List Change) (v : ℕ) → IsPrefix js ks → v ≤ length js → at ks v ≡ at js v
at_prefix js ks v pre known = ap (λ (l : List Change). at l v) (sym pre.1) ∙ at-front js pre.0 v known

pub has_on : (rs ss : List LogRecord) (frame page place word : ℕ) → IsPrefix rs ss → HasWord rs frame page place word → HasWord ss frame page place word
has_on rs ss frame page place word pre has = record {
  number = has.number;
  words = has.words;
  filled = prefix_get rs ss has.number _ pre has.filled;
  inside = has.inside;
  word_is = has.word_is;
}

pub entry_on : (rs ss : List LogRecord) (version page entry : ℕ) → IsPrefix rs ss → IsEntry rs version page entry → IsEntry ss version page entry
entry_on rs ss version page entry pre is =
    let js = changes_prefix rs ss pre in record {
      known = omega (arith, is.known, prefix_length (changes_in rs) (changes_in ss) js);
      entry_is = is.entry_is ∙ sym (ap (λ (m : Table). m page) (at_prefix (changes_in rs) (changes_in ss) version js is.known));
    }

pub said_on : (rs ss : List LogRecord) (note : Note) → IsPrefix rs ss → IsSaidBy rs note → IsSaidBy ss note
said_on rs ss (EntryNote version page entry) pre is = entry_on rs ss version page entry pre is
said_on rs ss (WordNote version frame place word) pre is =
    let js = changes_prefix rs ss pre in record {
      known = omega (arith, is.known, prefix_length (changes_in rs) (changes_in ss) js);
      page = is.page;
      mapped = ap (λ (m : Table). m is.page) (at_prefix (changes_in rs) (changes_in ss) version js is.known) ∙ is.mapped;
      has = has_on rs ss frame is.page place word pre is.has;
    }

-- what was said is said
pub still_said : (v w : LookupView) (note : Note) → IsPrefix v.log w.log → (w.failed ≡ false → v.failed ≡ false) → IsSaidIn v note → IsSaidIn w note
still_said v w note pre on said = λ none. said_on v.log w.log note pre (said (on none))

-- the entry of a mapped page tells the frame
mapped_by : (log : List LogRecord) (version page frame : ℕ) → IsEntry log version page (frame + 1) → at (changes_in log) version page ≡ Some frame
mapped_by log version page frame is =
    let number : entry_of (frame + 1) ≡ Some frame = (let e : frame + 1 ≡ suc frame = omega arith in ap entry_of e) in
    sym is.entry_is ∙ number

-- a word that a frame has for the page that is mapped to it
pub word_said : (rs ss : List LogRecord) (version frame page place word : ℕ) → IsPrefix rs ss → IsEntry rs version page (frame + 1)
    → HasWord ss frame page place word → IsSaidBy ss (WordNote version frame place word)
word_said rs ss version frame page place word pre entry has =
    let is = entry_on rs ss version page (frame + 1) pre entry in record {
      known = is.known;
      page = page;
      mapped = mapped_by ss version page frame is;
      has = has;
    }

-- a page that was found by what a table says is found by what a look-up in it says
pub finest_said : (v : LookupView) (page : ℕ) (found : Found) → IsLookup v
    → IsFinestFound v.shape v.table.version (IsSaidBy v.table.front.seen.log) page found → IsFinestFound v.shape v.table.version (IsSaidIn v) page found
finest_said v page found lookup is =
    let on : (note : Note) → IsSaidBy v.table.front.seen.log note → IsSaidIn v note = λ note said none.
    said_on v.table.front.seen.log v.log note lookup.seen said in
    record {
      no_finer = is.no_finer;
      level_inside = is.level_inside;
      page = is.page;
      level = is.level;
      unmapped = λ k low high. on (EntryNote v.table.version (ancestor_of v.shape page k) 0) (is.unmapped k low high);
      mapped = on (EntryNote v.table.version found.page (found.slot + 1)) is.mapped;
    }

pub if_finest : (v : LookupView) (page : ℕ) (o : Option Found) → IsLookup v
    → IfSome o (IsFinestFound v.shape v.table.version (IsSaidBy v.table.front.seen.log) page) → IfSome o (IsFinestFound v.shape v.table.version (IsSaidIn v) page)
if_finest v page None lookup is = is
if_finest v page (Some found) lookup is = finest_said v page found lookup is

pub if_entry : (rs ss : List LogRecord) (version page : ℕ) (o : Option ℕ) → IsPrefix rs ss → IfSome o (IsEntry rs version page)
    → IfSome o (IsEntry ss version page)
if_entry rs ss version page None pre is = is
if_entry rs ss version page (Some entry) pre is = entry_on rs ss version page entry pre is

-- the word that was read is said of the frame that was found
pub texel_read : (v r w : LookupView) (page frame place word : ℕ) → r ≡ record v { slot = frame } → w ≡ record r { log = w.log; failed = w.failed }
    → IsPrefix r.log w.log → (w.failed ≡ false → r.failed ≡ false) → IsSaidIn v (EntryNote v.table.version page (frame + 1))
    → (w.failed ≡ false → HasWord w.log w.slot page place word) → w.failed ≡ false → IsWord w.log w.table.version frame place word
texel_read v r w page frame place word reach rest later on mapped has none =
    let log : r.log ≡ v.log = ap (λ (x : LookupView). x.log) reach in
    let failed : r.failed ≡ v.failed = ap (λ (x : LookupView). x.failed) reach in
    let entry : IsEntry v.log v.table.version page (frame + 1) = mapped (sym failed ∙ on none) in
    let pre : IsPrefix v.log w.log = subst (λ (l : List LogRecord). IsPrefix l w.log) log later in
    let slot : w.slot ≡ frame = ap (λ (x : LookupView). x.slot) rest ∙ ap (λ (x : LookupView). x.slot) reach in
    let table : w.table ≡ v.table = ap (λ (x : LookupView). x.table) rest ∙ ap (λ (x : LookupView). x.table) reach in
    let there : HasWord w.log frame page place word = subst (λ (f : ℕ). HasWord w.log f page place word) slot (has none) in
    subst (λ (t : NewestTable). IsWord w.log t.version frame place word) (sym table)
    (word_said v.log w.log v.table.version frame page place word pre entry there)

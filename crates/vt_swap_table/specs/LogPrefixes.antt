-- What a beginning of a log says the whole says. (As in vt_swap's proofs, which may not be cited here: they name modules that other crates pass on.)
use Rattle.std.proofs.Common.{◌≡◌, ℕ, ◌≤◌, List, [], ◌∷◌, ◌++◌, length, refl, sym, ap, ◌∙◌, arith}
use Rattle.std.specs.Prelude.{All}
use Rattle.std.proofs.lemmas.List.Elements.{All-tail}
use mathlib.Core.List.{IsPrefix}
use Rattle.vt_page_table.specs.DrawLookups.{Note, EntryNote, WordNote}
use Rattle.vt_journal.specs.declared.changes.Change.{Change}
use Rattle.vt_journal.specs.Changes.{Table, at}
use Rattle.vt_journal.proofs.Versions.{at-front}
use Rattle.vt_swap_log.specs.declared.records.LogRecord.{LogRecord}
use Rattle.vt_swap_log.specs.Logs.{changes_in}
use Rattle.vt_swap_log.specs.LogWords.{HasWord}
use Rattle.vt_swap_log.proofs.Prefixes.{prefix_self, prefix_get, prefix_length}
use Rattle.vt_swap_log.proofs.Lawful.{changes_prefix}
use Rattle.vt_swap.specs.Notes.{IsSaidBy}
use Rattle.vt_swap.specs.Readers.{ReaderView, HasEnteredMore}

-- what is so of each element is so of those behind a front
pub all_behind : {X : Type 0} (P : X → Type 0) (xs ys : List X) → All P (xs ++ ys) → All P ys
all_behind P [] ys all = all
all_behind P (x ∷ xs) ys all = all_behind P xs ys (All-tail P x (xs ++ ys) all)

pub entered_none : (r : ReaderView) → HasEnteredMore r r []
entered_none r = record { cache = refl; log = prefix_self r.log; entered = refl }

-- so many changes a longer log has at least
pub known_on : (rs ss : List LogRecord) (version : ℕ) → IsPrefix rs ss → version ≤ length (changes_in rs) → version ≤ length (changes_in ss)
known_on rs ss version pre known = omega (arith, known, prefix_length (changes_in rs) (changes_in ss) (changes_prefix rs ss pre))

at_prefix : (js ks : List Change) (v : ℕ) → IsPrefix js ks → v ≤ length js → at ks v ≡ at js v
at_prefix js ks v pre known = ap (λ (l : List Change). at l v) (sym pre.1) ∙ at-front js pre.0 v known

has_on : (rs ss : List LogRecord) (frame page place word : ℕ) → IsPrefix rs ss → HasWord rs frame page place word → HasWord ss frame page place word
has_on rs ss frame page place word pre has = record {
  number = has.number;
  words = has.words;
  filled = prefix_get rs ss has.number _ pre has.filled;
  inside = has.inside;
  word_is = has.word_is;
}

pub said_on : (rs ss : List LogRecord) (note : Note) → IsPrefix rs ss → IsSaidBy rs note → IsSaidBy ss note
said_on rs ss (EntryNote version page entry) pre is =
    let js = changes_prefix rs ss pre in record {
      known = omega (arith, is.known, prefix_length (changes_in rs) (changes_in ss) js);
      entry_is = is.entry_is ∙ sym (ap (λ (m : Table). m page) (at_prefix (changes_in rs) (changes_in ss) version js is.known));
    }
said_on rs ss (WordNote version frame place word) pre is =
    let js = changes_prefix rs ss pre in record {
      known = omega (arith, is.known, prefix_length (changes_in rs) (changes_in ss) js);
      page = is.page;
      mapped = ap (λ (m : Table). m is.page) (at_prefix (changes_in rs) (changes_in ss) version js is.known) ∙ is.mapped;
      has = has_on rs ss frame is.page place word pre is.has;
    }

-- Versions that are entered one after the other.
use Rattle.std.proofs.Common.{ℕ, ◌≤◌, List, [], ◌∷◌, ◌++◌, length, refl, sym, ap, ◌∙◌, subst, arith, append_assoc}
use Rattle.std.specs.Prelude.{All}
use Rattle.std.proofs.lemmas.List.Elements.{All-tail}
use mathlib.Core.List.{IsPrefix}
use Rattle.vt_swap_steps.specs.LogTypes.records.LogRecord.{LogRecord}
use Rattle.vt_swap_steps.specs.declared.table.NewestTable.{NewestTable}
use Rattle.vt_swap_steps.specs.Logs.{changes_in}
use Rattle.vt_swap_steps.specs.Tables.{IsNewestTable}
use Rattle.vt_swap.specs.Readers.{ReaderView, HasEnteredMore, WasEntered}
use Rattle.vt_swap_steps.proofs.Prefixes.{prefix_self, prefix_trans, prefix_length}
use Rattle.vt_swap_steps.proofs.Lawful.{changes_prefix}

-- what is so of each element is so of those behind a front
pub all_behind : {X : Type 0} (P : X → Type 0) (xs ys : List X) → All P (xs ++ ys) → All P ys
all_behind P [] ys all = all
all_behind P (x ∷ xs) ys all = all_behind P xs ys (All-tail P x (xs ++ ys) all)

pub entered_none : (r : ReaderView) → HasEnteredMore r r []
entered_none r = record { cache = refl; log = prefix_self r.log; entered = refl }

pub entered_then : (r q s : ReaderView) (more : List ℕ) (version : ℕ) → HasEnteredMore r q more → HasEnteredMore q s (version ∷ [])
    → HasEnteredMore r s (version ∷ more)
entered_then r q s more version one two = record {
  cache = two.cache ∙ one.cache;
  log = prefix_trans r.log q.log s.log one.log two.log;
  entered = two.entered ∙ ap (λ (l : List ℕ). version ∷ l) one.entered;
}

-- the version that was entered last, after others
pub was_entered : (r q s : ReaderView) (more : List ℕ) (version : ℕ) → HasEnteredMore r q more → HasEnteredMore q s (version ∷ [])
    → All (λ (u : ℕ). u ≤ version) q.entered → version ≤ length (changes_in s.log) → WasEntered r s version
was_entered r q s more version one two later known = record {
  before = more;
  more = entered_then r q s more version one two;
  later = all_behind (λ (u : ℕ). u ≤ version) more r.entered (subst (λ (l : List ℕ). All (λ (u : ℕ). u ≤ version) l) one.entered later);
  known = known;
}

-- versions were entered before
pub was_later : (r q s : ReaderView) (more : List ℕ) (version : ℕ) → HasEnteredMore r q more → WasEntered q s version → WasEntered r s version
was_later r q s more version one two = record {
  before = two.before ++ more;
  more = record {
    cache = two.more.cache ∙ one.cache;
    log = prefix_trans r.log q.log s.log one.log two.more.log;
    entered =
        two.more.entered ∙ ap (λ (l : List ℕ). version ∷ (two.before ++ l)) one.entered
        ∙ ap (λ (l : List ℕ). version ∷ l) (sym (append_assoc two.before more r.entered));
  };
  later = all_behind (λ (u : ℕ). u ≤ version) more r.entered (subst (λ (l : List ℕ). All (λ (u : ℕ). u ≤ version) l) one.entered two.later);
  known = two.known;
}

-- the version of a table is one of the journal that a log tells which goes on where the table's ends
pub version_known : (t : NewestTable) (log : List LogRecord) → IsNewestTable t → IsPrefix t.front.seen.log log → t.version ≤ length (changes_in log)
version_known t log table seen =
    omega (arith, table.version_is, prefix_length (changes_in t.front.seen.log) (changes_in log) (changes_prefix t.front.seen.log log seen))

-- so many changes a longer log has at least
pub known_on : (rs ss : List LogRecord) (version : ℕ) → IsPrefix rs ss → version ≤ length (changes_in rs) → version ≤ length (changes_in ss)
known_on rs ss version pre known = omega (arith, known, prefix_length (changes_in rs) (changes_in ss) (changes_prefix rs ss pre))

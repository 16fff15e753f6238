-- What the writer of the swapped table knows of its readers, and what is true of its journal.
use Rattle.std.proofs.Common.{◌≡◌, ℕ, ◌≤◌, Bool, true, false, Option, None, Some, List, [], ◌∷◌, length, refl, sym, ap, ◌∙◌, subst, arith}
use Rattle.std.specs.Prelude.{Contains, MatchBool, IsTrue, not, Result, Ok, Err, OnOk}
use Rattle.std.proofs.lemmas.Bool.{false≢true}
use Rattle.std.proofs.lemmas.List.Elements.{Contains-append_left}
use Rattle.std.proofs.lemmas.Option.{same_Some}
use mathlib.Core.List.{IsPrefix}
use Rattle.vt_journal.specs.Shape.{Shape}
use Rattle.vt_page_table.specs.Format.{stored}
use Rattle.vt_page_table.specs.StoreViews.{IsStore}
use Rattle.vt_page_table.specs.DrawLookups.{Note}
use Rattle.vt_page_table.specs.Evidence.{AreTrue}
use Rattle.vt_journal.specs.declared.changes.Change.{Change}
use Rattle.vt_journal.specs.Changes.{at}
use Rattle.vt_page_table.specs.Fills.{AreStoredPages}
use Rattle.vt_swap.specs.LogTypes.frame.FrameKey.{FrameKey}
use Rattle.vt_swap.specs.Logs.{changes_in, IsLawfulLog}
use Rattle.vt_swap.specs.Caches.{Cache}
use Rattle.vt_swap.specs.Slots.{AreSlotsOf}
use Rattle.vt_swap.specs.Notes.{IsSaidBy}
use Rattle.vt_swap.specs.Readers.{ReaderView}
use Rattle.vt_swap.specs.Streamers.{StreamerView, IsJournalWhole}
use Rattle.vt_swap_table.specs.Entered.{WasEnteredBetween}
use Rattle.vt_swap_table.specs.LogPrefixes.{said_on, known_on}
use Rattle.vt_swap_table.specs.declared.table.SwapReader.{SwapReader}
use Rattle.vt_swap_table.specs.SwapReaders.{MayReaderDraw, OfReaders, IsSaidIf}
use Rattle.vt_swap_table.specs.SwapWriters.{AreSlotsFor, HasFilledPage, IsKnownIf}
use Rattle.vt_swap_table.proofs.Replaying.{said_true}

pub on_ok : {V E A B : Type 0} (r : Result V E) → (A → B) → OnOk r A → OnOk r B
on_ok (Ok v) f a = f a
on_ok (Err e) f a = tt

pub if_true : (A B : Type 0) (b : Bool) → IsTrue b → MatchBool b A B → A
if_true A B true sure a = a
if_true A B false sure b = absurd (false≢true sure)

pub not_so : (b : Bool) → not b ≡ true → b ≡ false
not_so true e = absurd (false≢true e)
not_so false e = refl

-- slots, of which there is one, are of one cache
pub one_cache : (slots : List FrameKey) (a b : Cache) → 1 ≤ length slots → AreSlotsOf a slots → AreSlotsOf b slots → a ≡ b
one_cache [] a b some one two = absurd (omega (arith, some))
one_cache (x ∷ xs) a b some one two = sym (one.each 0 x (omega arith)).cache_is ∙ (two.each 0 x (omega arith)).cache_is

-- a reader that may draw is one of a writer's cache
pub own_cache : (slots : List FrameKey) (s : Shape) (a : SwapReader) (v : StreamerView) (own : ReaderView) → MayReaderDraw slots s a → AreSlotsFor slots v
    → a.reader ≡ Some own → own.cache ≡ v.cache
own_cache slots s a v own may of is =
    let o = may.opened in
    subst (λ (r : ReaderView). r.cache ≡ v.cache) (same_Some o.reader own (sym o.has ∙ is)) (one_cache slots o.reader.cache v.cache of.some o.of of.slots_are)

-- what a reader says that is known
pub said_known : (v : StreamerView) (o : Option ReaderView) (note : Note) → IsKnownIf v o → IsSaidIf o note → IsSaidBy v.log note
said_known v None note known said = absurd said
said_known v (Some r) note known said = said_on r.log v.log note known.1 said

pub entered_among : (o : Option ReaderView) (q : ReaderView) (version : ℕ) → OfReaders (λ r s. WasEnteredBetween r s version) o (Some q)
    → Contains q.entered version × (version ≤ length (changes_in q.log))
entered_among None q version was = absurd was
entered_among (Some r) q version was =
    (subst (λ (l : List ℕ). Contains l version) (sym was.entered) (Contains-append_left was.more r.entered version was.among), was.known)

pub no_later : (v : StreamerView) (q : ReaderView) (version : ℕ) → IsPrefix q.log v.log → IsJournalWhole v → v.broken ≡ false
    → version ≤ length (changes_in q.log) → version ≤ length v.journal
no_later v q version known whole fine low = omega (arith, known_on q.log v.log version known low, ap length (whole fine))

-- what a writer knows that goes on is true of its journal over the store
pub journal_true : (v : StreamerView) (s : Shape) (d : ℕ) (b : List ℕ) → IsLawfulLog v.log → IsStore b s d → v.broken ≡ false
    → AreStoredPages s d (Some b) (HasFilledPage v) → (version : ℕ) → IsJournalWhole v
    → AreTrue s (stored b) (at v.journal version) version (IsSaidBy v.log)
journal_true v s d b lawful store fine are version whole =
    subst (λ (l : List Change). AreTrue s (stored b) (at l version) version (IsSaidBy v.log)) (whole fine)
    (said_true v.log s d b lawful store
    (λ n frame page words is. are page words (record { goes_on = fine; number = n; frame = frame; filled = is })) version)

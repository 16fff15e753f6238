-- The laws of readers of the swapped table, and of its writer.
use Rattle.std.proofs.Common.{ℕ, ◌≤◌, Option, None, Some, List, [], ◌∷◌, ◌++◌, refl, sym, ap, ◌∙◌, subst, arith, append_assoc, ◌+◌}
use Rattle.std.specs.Prelude.{All, Contains}
use Rattle.std.proofs.lemmas.List.Elements.{All-contains, Contains-append_left, Contains-append_right}
use Rattle.vt_definitions.specs.Limits.{most_versions}
use Rattle.vt_journal.specs.Shape.{Shape}
use Rattle.vt_page_table.specs.DrawLookups.{Note}
use Rattle.vt_swap.specs.LogTypes.frame.FrameKey.{FrameKey}
use Rattle.vt_swap.specs.Notes.{IsSaidBy}
use Rattle.vt_swap.specs.Readers.{ReaderView, HasEnteredMore, WasEntered}
use Rattle.vt_swap.specs.Streamers.{StreamerView}
use Rattle.vt_swap_log.proofs.Prefixes.{prefix_self, prefix_trans}
use Rattle.vt_swap_table.specs.LogPrefixes.{said_on, entered_none, all_behind, known_on}
use Rattle.vt_swap_table.specs.declared.table.SwapReader.{SwapReader}
use Rattle.vt_swap_table.specs.Entered.{WasEnteredBetween, HasEnteredRows}
use Rattle.vt_swap_table.specs.SwapReaders.{MayReaderDraw, HasSeen, HasSeenStart, OfReaders, EnteredRow, EnteredRows, EnteredAt, IsSaidIf}
use Rattle.vt_swap_table.specs.SwapWriters.{HasLogged, IsKnownIf, HasComeHome, WasEnteredBy}

pub fewer_changes : (made m n : ℕ) → n ≤ m → made + m ≤ most_versions → made + n ≤ most_versions
fewer_changes made m n less room = omega (arith, less, room)

pub logged_none : (w : StreamerView) → HasLogged w w
logged_none w = record { cache = refl; log = prefix_self w.log }

pub logged_twice : (u v w : StreamerView) → HasLogged u v → HasLogged v w → HasLogged u w
logged_twice u v w one two = record { cache = two.cache ∙ one.cache; log = prefix_trans u.log v.log w.log one.log two.log }

pub said_later : (v w : StreamerView) (note : Note) → HasLogged v w → IsSaidBy v.log note → IsSaidBy w.log note
said_later v w note more said = said_on v.log w.log note more.log said

pub entered_by_later : (v w : StreamerView) (a : SwapReader) (version : ℕ) → HasLogged v w → WasEnteredBy v a version → WasEnteredBy w a version
entered_by_later v w a version more was = record { reader = was.reader; has = was.has; of = was.of ∙ sym more.cache; entered = was.entered }

known_within : (v w : StreamerView) (o : Option ReaderView) → HasLogged v w → IsKnownIf v o → IsKnownIf w o
known_within v w None more known = absurd known
known_within v w (Some r) more known = (known.0 ∙ sym more.cache, prefix_trans r.log v.log w.log known.1 more.log)

pub home_within : (v w : StreamerView) (o home : Option ReaderView) → HasLogged v w → HasComeHome v o home → HasComeHome w o home
home_within v w o home more came = record { known = known_within v w o more came.known; same = came.same }

-- a reader that entered more, and then more
pub entered_more : (r q s : ReaderView) (more then : List ℕ) → HasEnteredMore r q more → HasEnteredMore q s then → HasEnteredMore r s (then ++ more)
entered_more r q s more then one two = record {
  cache = two.cache ∙ one.cache;
  log = prefix_trans r.log q.log s.log one.log two.log;
  entered = two.entered ∙ ap (λ (l : List ℕ). then ++ l) one.entered ∙ sym (append_assoc then more r.entered);
}

pub rows_none_of : (slots : List FrameKey) (s : Shape) (a : SwapReader) → MayReaderDraw slots s a → EnteredRows a a []
rows_none_of slots s a may = subst (λ (x : Option ReaderView). OfReaders (λ r q. HasEnteredRows r q []) x x) (sym may.opened.has)
    (record { more = []; entered = entered_none may.opened.reader; for_rows = refl })

-- of the readers themselves
rows_more : (r q s : ReaderView) (versions : List ℕ) (v : ℕ) → HasEnteredRows r q versions → WasEntered q s v → HasEnteredRows r s (v ∷ versions)
rows_more r q s versions v one two = record {
  more = (v ∷ two.before) ++ one.more;
  entered = entered_more r q s one.more (v ∷ two.before) one.entered two.more;
  for_rows = (two.before, one.more, refl, one.for_rows);
}

entered_now : (r q s : ReaderView) (more : List ℕ) (v : ℕ) → HasEnteredMore r q more → WasEntered q s v → WasEnteredBetween r s v
entered_now r q s more v one two = record {
  more = (v ∷ two.before) ++ more;
  entered = two.more.entered ∙ ap (λ (l : List ℕ). (v ∷ two.before) ++ l) one.entered ∙ sym (append_assoc (v ∷ two.before) more r.entered);
  among = Contains-append_left (v ∷ two.before) more v (0, omega arith, refl);
  later = all_behind (λ (u : ℕ). u ≤ v) more r.entered (subst (λ (l : List ℕ). All (λ (u : ℕ). u ≤ v) l) one.entered two.later);
  known = two.known;
}

entered_then : (r q s : ReaderView) (then : List ℕ) (u : ℕ) → HasEnteredMore q s then → WasEnteredBetween r q u → WasEnteredBetween r s u
entered_then r q s then u two was = record {
  more = then ++ was.more;
  entered = two.entered ∙ ap (λ (l : List ℕ). then ++ l) was.entered ∙ sym (append_assoc then was.more r.entered);
  among = Contains-append_right then was.more u was.among;
  later = was.later;
  known = known_on q.log s.log u two.log was.known;
}

entered_since : (start : ℕ) (r q s : ReaderView) (v : ℕ) → HasSeen start r q → WasEnteredBetween q s v → WasEnteredBetween r s v
entered_since start r q s v seen was = record {
  more = was.more ++ (seen.version ∷ seen.entered.before);
  entered = was.entered ∙ ap (λ (l : List ℕ). was.more ++ l) seen.entered.more.entered
      ∙ sym (append_assoc was.more (seen.version ∷ seen.entered.before) r.entered);
  among = Contains-append_left was.more (seen.version ∷ seen.entered.before) v was.among;
  later = all_behind (λ (u : ℕ). u ≤ v) (seen.version ∷ seen.entered.before) r.entered
      (subst (λ (l : List ℕ). All (λ (u : ℕ). u ≤ v) l) seen.entered.more.entered was.later);
  known = was.known;
}

pub not_above : (r q : ReaderView) (u v : ℕ) → All (λ (x : ℕ). x ≤ v) q.entered → WasEnteredBetween r q u → u ≤ v
not_above r q u v later was =
    All-contains (λ (x : ℕ). x ≤ v) q.entered u later
    (subst (λ (l : List ℕ). Contains l u) (sym was.entered) (Contains-append_left was.more r.entered u was.among))

-- and so of readers that are there
rows_more_if : (o p q : Option ReaderView) (versions : List ℕ) (v : ℕ) → OfReaders (λ r s. HasEnteredRows r s versions) o p
    → OfReaders (λ r s. WasEntered r s v) p q → OfReaders (λ r s. HasEnteredRows r s (v ∷ versions)) o q
rows_more_if None p q versions v one two = absurd one
rows_more_if (Some a) None q versions v one two = absurd one
rows_more_if (Some a) (Some b) None versions v one two = absurd two
rows_more_if (Some a) (Some b) (Some c) versions v one two = rows_more a b c versions v one two

now_if : (o p q : Option ReaderView) (versions : List ℕ) (v : ℕ) → OfReaders (λ r s. HasEnteredRows r s versions) o p
    → OfReaders (λ r s. WasEntered r s v) p q → OfReaders (λ r s. WasEnteredBetween r s v) o q
now_if None p q versions v one two = absurd one
now_if (Some a) None q versions v one two = absurd one
now_if (Some a) (Some b) None versions v one two = absurd two
now_if (Some a) (Some b) (Some c) versions v one two = entered_now a b c one.more v one.entered two

then_if : (o p q : Option ReaderView) (u v : ℕ) → OfReaders (λ r s. WasEnteredBetween r s u) o p
    → OfReaders (λ r s. WasEntered r s v) p q → OfReaders (λ r s. WasEnteredBetween r s u) o q
then_if None p q u v one two = absurd one
then_if (Some a) None q u v one two = absurd one
then_if (Some a) (Some b) None u v one two = absurd two
then_if (Some a) (Some b) (Some c) u v one two = entered_then a b c (v ∷ two.before) u two.more one

since_if : (start : ℕ) (o p q : Option ReaderView) (v : ℕ) → OfReaders (λ r s. HasSeen start r s) o p
    → OfReaders (λ r s. WasEnteredBetween r s v) p q → OfReaders (λ r s. WasEnteredBetween r s v) o q
since_if start None p q v one two = absurd one
since_if start (Some a) None q v one two = absurd one
since_if start (Some a) (Some b) None v one two = absurd two
since_if start (Some a) (Some b) (Some c) v one two = entered_since start a b c v one two

rises_if : (o p q : Option ReaderView) (u v : ℕ) → OfReaders (λ r s. WasEnteredBetween r s u) o p
    → OfReaders (λ r s. WasEntered r s v) p q → u ≤ v
rises_if None p q u v one two = absurd one
rises_if (Some a) None q u v one two = absurd one
rises_if (Some a) (Some b) None u v one two = absurd two
rises_if (Some a) (Some b) (Some c) u v one two = not_above a b u v two.later one

said_if : (p q : Option ReaderView) (v : ℕ) (note : Note) → OfReaders (λ r s. WasEntered r s v) p q → IsSaidIf p note → IsSaidIf q note
said_if None q v note one said = absurd one
said_if (Some b) None v note one said = absurd one
said_if (Some b) (Some c) v note one said = said_on b.log c.log note one.more.log said

pub rows_more_of : (p q r : SwapReader) (versions : List ℕ) (v : ℕ) → EnteredRows p q versions → EnteredRow q r v → EnteredRows p r (v ∷ versions)
rows_more_of p q r versions v one two = rows_more_if p.reader q.reader r.reader versions v one two.by

pub entered_now_of : (p q r : SwapReader) (versions : List ℕ) (v : ℕ) → EnteredRows p q versions → EnteredRow q r v → EnteredAt p r v
entered_now_of p q r versions v one two = now_if p.reader q.reader r.reader versions v one two.by

pub entered_then_of : (p q r : SwapReader) (u v : ℕ) → EnteredAt p q u → EnteredRow q r v → EnteredAt p r u
entered_then_of p q r u v one two = then_if p.reader q.reader r.reader u v one two.by

pub entered_since_of : (p q r : SwapReader) (v : ℕ) → HasSeenStart p q → EnteredAt q r v → EnteredAt p r v
entered_since_of p q r v one two = since_if p.start p.reader q.reader r.reader v one two

pub rises_of : (p q r : SwapReader) (u v : ℕ) → EnteredAt p q u → EnteredRow q r v → u ≤ v
rises_of p q r u v one two = rises_if p.reader q.reader r.reader u v one two.by

pub said_more_of : (q r : SwapReader) (v : ℕ) (note : Note) → EnteredRow q r v → IsSaidIf q.reader note → IsSaidIf r.reader note
said_more_of q r v note one said = said_if q.reader r.reader v note one.by said

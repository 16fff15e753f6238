-- What is noted and published.
use Rattle.std.proofs.Common.{◌≡◌, ℕ, ◌+◌, ◌<◌, ◌≤◌, ◌^◌, Option, Some, None, List, [], ◌∷◌, ◌++◌, length, sym, ap, ◌∙◌, subst, arith, length-append, append_assoc}
use Rattle.std.specs.Prelude.{slice_get, IfSome, Result, Ok, Err, MatchResult}
use Rattle.vt_journal.specs.Limits.{most_versions}
use Rattle.vt_journal.specs.declared.changes.Change.{Change}
use Rattle.vt_journal.specs.declared.changes.Change.TheVariants.{Map}
use Rattle.vt_journal.specs.Changes.{newest, IsNext}
use Rattle.vt_journal.specs.Kept.{change_frame}
use Rattle.vt_swap_log.specs.declared.records.LogRecord.{LogRecord}
use Rattle.vt_swap_log.specs.declared.records.LogRecord.TheVariants.{Changed, Filled}
use Rattle.vt_swap_log.specs.declared.log.Front.{Front}
use Rattle.vt_swap_steps.specs.declared.table.NewestTable.{NewestTable}
use Rattle.vt_swap_steps.specs.declared.table.Operation.{Operation}
use Rattle.vt_swap_steps.specs.declared.rule.Known.{Known}
use Rattle.vt_swap_log.specs.Logs.{changes_in, MayFollow}
use Rattle.vt_swap_log.specs.Caches.{cache_of, AreOfOneLog}
use Rattle.vt_swap_steps.specs.Tables.{journal_of, IsPublished, MayPublish}
use Rattle.vt_swap_steps.specs.Rules.{KnowsLog}
use Rattle.vt_swap_log.proofs.Lawful.{changes-append, changes-filled, last_record}

-- the record that was noted is the last of the log
pub noted_last : (old new : List LogRecord) (r : LogRecord) (n : ℕ) → n ≡ length old → new ≡ old ++ r ∷ [] → slice_get new n ≡ Some r
noted_last old new r n count is = last_record old new r n count is

-- what is so of a value, if there is one
pub if_some_on : {X : Type 0} (o : Option X) (P Q : X → Type 0) → ((x : X) → P x → Q x) → IfSome o P → IfSome o Q
if_some_on None P Q on h = h
if_some_on (Some x) P Q on h = on x h

-- the journal once a change was noted
pub journal_noted : (old new : Front) (change : Change) → new.seen.log ≡ old.seen.log ++ Changed change ∷ []
    → journal_of new ≡ journal_of old ++ change ∷ []
journal_noted old new change is = ap changes_in is ∙ changes-append old.seen.log (Changed change ∷ [])

-- and once a frame was filled
pub journal_filled : (old new : Front) (frame page : ℕ) (words : List ℕ) → new.seen.log ≡ old.seen.log ++ Filled frame page words ∷ []
    → journal_of new ≡ journal_of old
journal_filled old new frame page words is = ap changes_in is ∙ changes-filled old.seen.log frame page words

-- a change that was noted may be published
pub may_publish : (t : NewestTable) (pending : List Operation) (change : Change) (old new : Front) → IsPublished t pending old → AreOfOneLog new old
    → new.seen.log ≡ old.seen.log ++ Changed change ∷ [] → length (journal_of old) + 1 ≤ most_versions → change_frame change + 1 < 2 ^ 32
    → MayPublish t pending change new
may_publish t pending change old new published cache log early frame =
    let journal = journal_noted old new change log in
    record {
      version = published.version;
      cache = published.cache ∙ sym cache;
      none = published.none;
      journal = journal ∙ ap (λ (js : List Change). js ++ change ∷ []) (sym published.journal);
      early = omega (arith, early, ap length journal, length-append (journal_of old) (change ∷ []));
      frame = frame;
    }

-- all is published still once a frame was filled
pub published_filled : (t : NewestTable) (pending : List Operation) (old new : Front) (frame page : ℕ) (words : List ℕ) → IsPublished t pending old
    → AreOfOneLog new old → new.seen.log ≡ old.seen.log ++ Filled frame page words ∷ [] → IsPublished t pending new
published_filled t pending old new frame page words published cache log = record {
  version = published.version;
  cache = published.cache ∙ sym cache;
  journal = published.journal ∙ sym (journal_filled old new frame page words log);
  none = published.none;
}

-- and so it is with the table of a writer, if there is one
pub published_if_filled : {W : Type 0} (home : Option W) (table : W → NewestTable) (pending : W → List Operation) (old new : Front) (frame page : ℕ)
    (words : List ℕ) → IfSome home (λ w. IsPublished (table w) (pending w) old) → AreOfOneLog new old
    → new.seen.log ≡ old.seen.log ++ Filled frame page words ∷ [] → IfSome home (λ w. IsPublished (table w) (pending w) new)
published_if_filled home table pending old new frame page words published cache log =
    if_some_on home (λ w. IsPublished (table w) (pending w) old) (λ w. IsPublished (table w) (pending w) new)
    (λ w h. published_filled (table w) (pending w) old new frame page words h cache log) published

-- a page may be mapped next after its frame was filled
pub may_map : (old new : Front) (frame page : ℕ) (words : List ℕ) → new.seen.log ≡ old.seen.log ++ Filled frame page words ∷ []
    → IsNext (newest (journal_of old)) (Map page frame) → MayFollow new.seen.log (Changed (Map page frame))
may_map old new frame page words log next = (
  subst (λ (js : List Change). IsNext (newest js) (Map page frame)) (sym (journal_filled old new frame page words log)) next,
  record { before = old.seen.log; words = words; last = log },
)

-- a fill and a map behind a log
pub log_mapped : (old filled new : List LogRecord) (frame page : ℕ) (words : List ℕ) → filled ≡ old ++ Filled frame page words ∷ []
    → new ≡ filled ++ Changed (Map page frame) ∷ [] → new ≡ old ++ Filled frame page words ∷ Changed (Map page frame) ∷ []
log_mapped old filled new frame page words one two =
    two ∙ ap (λ (l : List LogRecord). l ++ Changed (Map page frame) ∷ []) one
    ∙ append_assoc old (Filled frame page words ∷ []) (Changed (Map page frame) ∷ [])

-- who published knows which log it is
pub knows_published : (v w : Known) (y : NewestTable) (front : Front) → w ≡ record v { front = Some y.front } → y.front ≡ front → KnowsLog w front
knows_published v w y front is same = record {
  other = y.front;
  has = ap (λ (k : Known). k.front) is;
  one_log = ap (λ (f : Front). cache_of f) same;
}

-- what is so where a call succeeded
pub when_ok : {T E : Type 0} (r : Result T E) (P Q : Type 0) (x : T) → r ≡ Ok x → MatchResult r (λ y. P) (λ e. Q) → P
when_ok (Ok y) P Q x is h = h
when_ok (Err e) P Q x is h = absurd (cc)

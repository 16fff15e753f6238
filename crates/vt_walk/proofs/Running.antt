-- What is true after each beginning of a run: its tables agree, and its journal's text is that of a lawful content.
use Rattle.std.proofs.Common.{◌≡◌, ◌≢◌, ℕ, zero, suc, ◌+◌, ◌-◌, ◌<◌, ◌≤◌, ◌⊎◌, inl, inr, List, [], ◌∷◌, ◌++◌, length, map, get_or, Option, Some, None, refl, sym, ap, ◌∙◌, subst, append_assoc, length-append, zero-add, replicate, arith}
use Rattle.std.specs.Prelude.{slice_index_or, MatchOption, All, Contains}
use Rattle.std.specs.List.{range_with_len}
use Rattle.std.proofs.lemmas.Bool.{cases_lt}
use Rattle.std.proofs.lemmas.List.{append-nil, get_or_append_left, get_or_default}
use Rattle.std.proofs.lemmas.List.FromFn.{map-range_with_len_more}
use Rattle.vt_pages.specs.Shape.{Shape}
use Rattle.vt_pages.specs.Pages.{pages_of}
use Rattle.vt_journal.specs.declared.changes.Change.TheVariants.{Map}
use Rattle.vt_journal.specs.Changes.{Table, changed, newest, with_entry, AreInTurn}
use Rattle.vt_journal.specs.JournalText.{Content, pinned_change, pinned_changes}
use Rattle.vt_journal.specs.Following.{MayBePinned}
use Rattle.vt_journal.proofs.Versions.{newest-more, newest-none, entry-same, entry-other, same_page}
use Rattle.vt_journal.proofs.Growing.{lawful_in_turn}
use Rattle.vt_journal.proofs.ByParts.{lawful_by_parts}
use Rattle.vt_feedback.specs.declared.Wanted.{Wanted}
use Rattle.vt_feedback.specs.Wants.{IsWants}
use Rattle.vt_evict.specs.PlanTypes.batches.Planned.{Planned}
use Rattle.vt_plan.specs.Views.{RecencyView, IsRecencyTable, first_view, touched}
use Rattle.vt_evict.specs.Batches.{IsLawfulBatch, IsFreePage, IsVictim}
use Rattle.vt_evict.proofs.FirstLemmas.{range-more, first_table}
use Rattle.vt_evict.proofs.TouchLemmas.{touched_table}
use Rattle.vt_evict.proofs.LawfulLemmas.{plan_lawful, plan_count}
use Rattle.vt_walk_decisions.specs.Outcomes.{IsBatchFor}
use Rattle.vt_walk.specs.Fits.{WalkSetup}
use Rattle.vt_walk.specs.Runs.{WalkPass, IsWalkSetup, journal_after, recency_after, plan_after, IsNextPass, IsWalkRun}
use Rattle.vt_walk.specs.Agreements.{entry_number_of, RecencyAgrees}
use Rattle.vt_walk.proofs.Agreeing.{may_be_run}
use Rattle.vt_walk.proofs.Eventing.{HasUnpinnedVictim, outcome_follows, events_in_turn}
use Rattle.vt_walk.proofs.Settling.{AgreesOn, settled_agrees}

at_seam : (xs : List ℕ) (x : ℕ) → get_or (xs ++ x ∷ []) (length xs) 0 ≡ x
at_seam [] x = refl
at_seam (y ∷ xs) x = at_seam xs x

past : (xs : List ℕ) (k : ℕ) → length xs ≤ k → get_or xs k 0 ≡ 0
past [] k few = refl
past (x ∷ xs) zero few = absurd (omega (arith, few))
past (x ∷ xs) (suc k) few = past xs k (omega (arith, few))

push_agrees : (xs : List ℕ) (m : Table) (o : Option ℕ) (x page : ℕ) → x ≡ entry_number_of o → page ≡ length xs → AgreesOn xs m
    → AgreesOn (xs ++ x ∷ []) (with_entry m page o)
push_agrees xs m o x page is at agrees p = pick (same_page p page) where
  beside : (p < length xs) ⊎ (length xs ≤ p) → p ≢ page → get_or (xs ++ x ∷ []) p 0 ≡ get_or xs p 0
  beside (inl below) other = get_or_append_left xs (x ∷ []) 0 p below
  beside (inr above) other = past (xs ++ x ∷ []) p (omega (arith, length-append xs (x ∷ []), beyond (cases_lt (length xs) p))) ∙ sym (past xs p above) where
    beyond : (length xs < p) ⊎ (p ≤ length xs) → length xs < p
    beyond (inl past) = past
    beyond (inr most) = absurd (other (omega (arith, most, above, at)))

  pick : (p ≡ page) ⊎ (p ≢ page) → get_or (xs ++ x ∷ []) p 0 ≡ entry_number_of (with_entry m page o p)
  pick (inl same) = ap (λ k. get_or (xs ++ x ∷ []) k 0) (same ∙ at) ∙ at_seam xs x ∙ is
      ∙ ap entry_number_of (sym (ap (with_entry m page o) same ∙ entry-same m page o))
  pick (inr other) = beside (cases_lt p (length xs)) other ∙ agrees p ∙ ap entry_number_of (sym (entry-other m page p o other))

abbrev no_entries : ℕ → List ℕ
no_entries n = replicate n 0

zeros : (n p : ℕ) → get_or (no_entries n) p 0 ≡ 0
zeros zero p = refl
zeros (suc n) zero = refl
zeros (suc n) (suc p) = zeros n p

length-zeros : (n : ℕ) → length (no_entries n) ≡ n
length-zeros zero = refl
length-zeros (suc n) = ap suc (length-zeros n)

length-range : (a n : ℕ) → length (range_with_len a n) ≡ n
length-range a zero = refl
length-range a (suc n) = ap suc (length-range (a + 1) n)

-- the pinned pages, so many of them
pinned_agree : (s : Shape) (pinned n : ℕ) → AgreesOn (replicate (pages_of s - pinned) 0
    ++ range_with_len 1 n) (newest (map (pinned_change s pinned) (range_with_len 0 n)))
pinned_agree s pinned zero = λ p. ap (λ (xs : List ℕ). get_or xs p 0) (append-nil (replicate (pages_of s - pinned) 0)) ∙ zeros (pages_of s - pinned) p
    ∙ ap entry_number_of (sym (newest-none p))
pinned_agree s pinned (suc n) =
    let next : suc n ≡ n + 1 = omega arith in
    let front = replicate (pages_of s - pinned) 0 in
    let entries : front ++ range_with_len 1 (suc n) ≡ (front ++ range_with_len 1 n) ++ (1 + n) ∷ [] =
    ap (λ k. front ++ range_with_len 1 k) next ∙ ap (λ (xs : List ℕ). front ++ xs) (range-more 1 n)
    ∙ sym (append_assoc front (range_with_len 1 n) ((1 + n) ∷ [])) in
    let changes : map (pinned_change s pinned) (range_with_len 0 (suc n)) ≡ map (pinned_change s pinned) (range_with_len 0 n) ++ pinned_change s pinned n ∷ [] =
    ap (λ k. map (pinned_change s pinned) (range_with_len 0 k)) next ∙ map-range_with_len_more (pinned_change s pinned) 0 n n (zero-add n) in
    let count : length (front ++ range_with_len 1 n) ≡ pages_of s - pinned + n = length-append front (range_with_len 1 n)
    ∙ omega (arith, length-zeros (pages_of s - pinned), length-range 1 n) in
    let pushed = push_agrees (front ++ range_with_len 1 n) (newest (map (pinned_change s pinned) (range_with_len 0 n))) (Some n) (1 + n)
    (pages_of s - pinned + n) (omega arith) (sym count) (pinned_agree s pinned n) in
    let tables : newest (map (pinned_change s pinned) (range_with_len 0 (suc n))) ≡ changed
    (newest (map (pinned_change s pinned) (range_with_len 0 n))) (Map (pages_of s - pinned + n) n) =
    ap newest changes ∙ newest-more (map (pinned_change s pinned) (range_with_len 0 n)) (pinned_change s pinned n) in
    subst (AgreesOn (front ++ range_with_len 1 (suc n))) (sym tables)
    (subst (λ (xs : List ℕ). AgreesOn xs (changed (newest (map (pinned_change s pinned) (range_with_len 0 n))) (Map (pages_of s - pinned + n) n)))
    (sym entries) pushed)

first_agrees : (s : Shape) (frames pinned : ℕ) → RecencyAgrees (first_view s frames pinned) (newest (pinned_changes s pinned))
unfolding first_view
first_agrees s frames pinned = pinned_agree s pinned pinned

head_content : ℕ → Content
head_content pinned = record { pinned = pinned; passes = [] }

pub may_pin : (w : WalkSetup) → IsWalkSetup w → MayBePinned w.shape w.pinned
may_pin w h = record { some = h.some_pinned; few = h.enough_pages; framed = omega (arith, h.enough_frames, h.most_frames) }

head_in_turn : (w : WalkSetup) → IsWalkSetup w → AreInTurn (pinned_changes w.shape w.pinned)
unfolding head_content
head_in_turn w h = subst AreInTurn (append-nil (pinned_changes w.shape w.pinned))
    (lawful_in_turn w.shape 0 (head_content w.pinned) (lawful_by_parts w.shape 0 (head_content w.pinned) (record { head = may_pin w h; passes = tt })))

-- what is kept along a run
pub record IsKept (w : WalkSetup) (passes : List WalkPass) : Type 0 where
  pub table : IsRecencyTable (recency_after w passes)
  pub agrees : RecencyAgrees (recency_after w passes) (newest (journal_after w passes))
  pub step : AreInTurn (journal_after w passes)
  pub shape : (recency_after w passes).shape ≡ w.shape
  pub frames : (recency_after w passes).frames ≡ w.frames
  pub pinned : (recency_after w passes).pinned ≡ w.pinned

lawful_none : (v : RecencyView) → IsLawfulBatch v []
lawful_none v = record { each = λ k d inside. absurd (omega (arith, inside)); apart = λ j k d before inside. absurd (omega (arith, inside)) }

contained : (wants : List Wanted) (k : ℕ) (d : Wanted) → k < length wants → Contains wants (slice_index_or wants k d)
contained wants k d inside = (k, inside, sym (get_or_default wants k d (get_or wants k d) inside))

pub wants_inside : (s t : Shape) (pixels : ℕ → ℕ) (wants : List Wanted) → s ≡ t → IsWants t pixels wants → All (λ w. w.page < pages_of s) wants
wants_inside s t pixels wants same wanted k d inside =
    let here = (wanted.exact (slice_index_or wants k d)).0 (contained wants k d inside) in
    subst (λ x. (slice_index_or wants k d).page < pages_of x) (sym same) here.inside

-- what was planned is lawful
plan_is_lawful : (w : WalkSetup) (passes : List WalkPass) → IsWalkRun w passes → IsKept w passes → IsLawfulBatch (recency_after w passes) (plan_after w passes)
plan_is_lawful w [] run kept = lawful_none (first_view w.shape w.frames w.pinned)
plan_is_lawful w (p ∷ passes) run kept =
    plan_lawful (touched p.settled p.wants) p.wants w.most kept.table (wants_inside p.settled.shape w.shape (w.needs p.picture) p.wants kept.shape run.1.wanted)

pub unpinned_victims : (w : WalkSetup) (v : RecencyView) (batch : List Planned) → v.shape ≡ w.shape → v.pinned ≡ w.pinned → IsLawfulBatch v batch
    → All (HasUnpinnedVictim w.shape w.pinned) batch
unpinned_victims w v batch shape pinned laws k d inside = by_victim (slice_index_or batch k d).victim (laws.each k d inside).place where
  by_victim : (o : Option ℕ) → MatchOption o (IsFreePage v.entries (slice_index_or batch k d).frame) (IsVictim v (slice_index_or batch k d).frame)
      → MatchOption o (Unit {0}) (λ q. q + w.pinned < pages_of w.shape)
  by_victim None free = tt
  by_victim (Some q) is = let at : pages_of v.shape ≡ pages_of w.shape = ap pages_of shape in omega (arith, is.unpinned, at, pinned)

-- a pass that may come next is lawful for its tables
pub batch_is_lawful : (w : WalkSetup) (passes : List WalkPass) (batch : List Planned) → IsWalkRun w passes → IsKept w passes → batch ≡ plan_after w passes
    → IsLawfulBatch (recency_after w passes) batch
batch_is_lawful w passes batch run kept is = subst (IsLawfulBatch (recency_after w passes)) (sym is) (plan_is_lawful w passes run kept)

pub batch_may_be_run : (w : WalkSetup) (passes : List WalkPass) (batch : List Planned) → IsWalkRun w passes → IsKept w passes → batch ≡ plan_after w passes
    → IsBatchFor w.shape w.frames (newest (journal_after w passes)) batch
batch_may_be_run w passes batch run kept is =
    let b = may_be_run (recency_after w passes) (newest (journal_after w passes)) batch kept.table kept.agrees (batch_is_lawful w passes batch run kept is) in
    subst (λ (x : Shape × ℕ). IsBatchFor x.0 x.1 (newest (journal_after w passes)) batch) (λ i. (kept.shape i, kept.frames i)) b

-- what is kept as a pass is done
kept_more : (w : WalkSetup) (p : WalkPass) (passes : List WalkPass) → IsWalkSetup w → IsWalkRun w passes → IsNextPass w passes p → IsKept w passes
    → IsKept w (p ∷ passes)
kept_more w p passes h run next kept =
    let laws = batch_is_lawful w passes p.batch run kept next.planned in
    let k = settled_agrees (recency_after w passes) p.settled (journal_after w passes) p.batch p.losses p.events kept.table kept.agrees laws
    next.outcome next.settles in
    let follow = outcome_follows w.shape w.frames w.pinned (journal_after w passes) p.batch p.losses p.events h.most_frames kept.step
    (batch_may_be_run w passes p.batch run kept next.planned) (unpinned_victims w (recency_after w passes) p.batch kept.shape kept.pinned laws) next.outcome in
    record {
      table = touched_table p.settled p.wants k.table;
      agrees = k.agrees;
      step = events_in_turn w.shape w.pinned (journal_after w passes) p.events kept.step follow;
      shape = next.settles.shape ∙ kept.shape;
      frames = next.settles.frames ∙ kept.frames;
      pinned = next.settles.pinned ∙ kept.pinned;
    }

kept_none : (w : WalkSetup) → IsWalkSetup w → IsKept w []
unfolding first_view
kept_none w h = record {
  table = first_table w.shape w.frames w.pinned h.limits h.most_frames h.some_pinned h.enough_frames h.enough_pages;
  agrees = first_agrees w.shape w.frames w.pinned;
  step = head_in_turn w h;
  shape = refl;
  frames = refl;
  pinned = refl;
}

pub run_kept : (w : WalkSetup) (passes : List WalkPass) → IsWalkSetup w → IsWalkRun w passes → IsKept w passes
run_kept w [] h run = kept_none w h
run_kept w (p ∷ passes) h run = kept_more w p passes h run.0 run.1 (run_kept w passes h run.0)

pub plan_most : (w : WalkSetup) (passes : List WalkPass) → length (plan_after w passes) ≤ w.most
plan_most w [] = omega arith
plan_most w (p ∷ passes) = plan_count (touched p.settled p.wants) p.wants w.most

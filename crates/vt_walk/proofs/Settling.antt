-- After each pass the recency's table is that of the journal's newest version.
use Rattle.std.proofs.Common.{◌≡◌, ◌≢◌, ℕ, zero, suc, ◌+◌, ◌<◌, ◌≤◌, ◌⊎◌, inl, inr, Bool, true, false, cond, ◌||◌, List, [], ◌∷◌, ◌++◌, length, drop, reverse, get_or, Option, Some, None, refl, sym, ap, ◌∙◌, subst, append_assoc, nat_eq, arith}
use Rattle.std.specs.Prelude.{slice_get, slice_set, slice_index, slice_index_or, MatchOption, Contains, IsPermutation}
use Rattle.std.specs.List.{range_with_len}
use Rattle.std.proofs.lemmas.Bool.{false≢true}
use Rattle.std.proofs.lemmas.List.{append-nil, reverse-append, length-set, get_or-set_other, get_or_default}
use Rattle.std.proofs.lemmas.Grind.{get_or-set_at, flat_map-append}
use Rattle.std.proofs.lemmas.List.Sorted.{IsPermutation-reverse}
use Rattle.std.proofs.lemmas.Option.{slice_get-get_or}
use Rattle.vt_outside.proofs.SameLists.{same_lists}
use Rattle.vt_journal.specs.declared.changes.Change.{Change}
use Rattle.vt_journal.specs.declared.changes.Change.TheVariants.{Map, Unmap}
use Rattle.vt_journal.specs.declared.changes.Event.{Event}
use Rattle.vt_journal.specs.declared.changes.Event.TheVariants.{Changed}
use Rattle.vt_journal.specs.Changes.{Table, changed, newest, with_entry}
use Rattle.vt_journal.specs.JournalText.{changes_of}
use Rattle.vt_journal.proofs.Versions.{newest-more, entry-same, entry-other, same_page}
use Rattle.vt_journal.proofs.EventLines.{changes_of-append}
use Rattle.vt_evict.specs.PlanTypes.batches.Planned.{Planned}
use Rattle.vt_plan.specs.Views.{RecencyView, IsRecencyTable}
use Rattle.vt_evict.specs.Batches.{IsLawfulBatch, IsLawfulEntry, IsFreePage, IsVictim, IsSettledByReads, IsSettledTable, read_entries, is_read, is_victim}
use Rattle.vt_evict.specs.Kept.{applied, without_victim}
use Rattle.vt_evict.proofs.PlanListLemmas.{nat_eq_true}
use Rattle.vt_evict.proofs.SettleLemmas.{applied_some, applied_none, settle_step, nothing_read, contains_tail}
use Rattle.vt_walk_decisions.specs.Outcomes.{victim_events, group_of, group_if, group_at, pass_events, IsOutcome}
use Rattle.vt_walk_decisions.proofs.AnyOrder.{any_order}
use Rattle.vt_walk.specs.Agreements.{entry_number_of, RecencyAgrees}
use Rattle.vt_walk.proofs.Agreeing.{may_be_run}

-- entries agree with a table
abbrev pub AgreesOn : List ℕ → Table → Type 0
AgreesOn entries m = (p : ℕ) → slice_index entries p ≡ entry_number_of (m p)

set_agrees : (entries : List ℕ) (m : Table) (page : ℕ) (o : Option ℕ) → page < length entries → AgreesOn entries m
    → AgreesOn (slice_set entries page (entry_number_of o)) (with_entry m page o)
set_agrees entries m page o inside agrees p = pick (same_page p page) where
  pick : (p ≡ page) ⊎ (p ≢ page) → slice_index (slice_set entries page (entry_number_of o)) p ≡ entry_number_of (with_entry m page o p)
  pick (inl same) = get_or-set_at entries page p (entry_number_of o) 0 same inside ∙ ap entry_number_of (sym (ap (with_entry m page o) same ∙ entry-same m page o))
  pick (inr other) = get_or-set_other entries page p (entry_number_of o) 0 other ∙ agrees p ∙ ap entry_number_of (sym (entry-other m page p o other))

-- an entry that was read
applied_agrees : (v : RecencyView) (ks : List Change) (e : Planned) → IsRecencyTable v → IsLawfulEntry v e → RecencyAgrees v (newest ks)
    → RecencyAgrees (applied v e) (newest (ks ++ changes_of (group_of e false)))
unfolding applied
applied_agrees v ks e table l agrees = by_victim e.victim l.place where
  by_victim : (o : Option ℕ) → MatchOption o (IsFreePage v.entries e.frame) (IsVictim v e.frame)
      → AgreesOn (slice_set (without_victim v.entries o) e.page (e.frame + 1)) (newest (ks
      ++ changes_of (victim_events o e.frame ++ Changed (Map e.page e.frame) ∷ [])))
  by_victim None free =
      subst (AgreesOn (slice_set v.entries e.page (e.frame + 1))) (sym (newest-more ks (Map e.page e.frame)))
      (set_agrees v.entries (newest ks) e.page (Some e.frame) (omega (arith, l.unpinned, table.entries_for_all)) agrees)
  by_victim (Some q) is =
      let count : length (slice_set v.entries q 0) ≡ length v.entries = length-set v.entries q 0 in
      let one = set_agrees v.entries (newest ks) q None (omega (arith, is.unpinned, table.entries_for_all)) agrees in
      let two = set_agrees (slice_set v.entries q 0) (changed (newest ks) (Unmap q e.frame)) e.page (Some e.frame)
      (omega (arith, l.unpinned, table.entries_for_all, count)) one in
      let first : newest (ks ++ Unmap q e.frame ∷ []) ≡ changed (newest ks) (Unmap q e.frame) = newest-more ks (Unmap q e.frame) in
      let both : newest (ks ++ Unmap q e.frame ∷ Map e.page e.frame ∷ []) ≡ changed (newest (ks ++ Unmap q e.frame ∷ [])) (Map e.page e.frame) =
      ap newest (sym (append_assoc ks (Unmap q e.frame ∷ []) (Map e.page e.frame ∷ []))) ∙ newest-more (ks ++ Unmap q e.frame ∷ []) (Map e.page e.frame) in
      subst (AgreesOn (slice_set (slice_set v.entries q 0) e.page (e.frame + 1))) (sym (both ∙ ap (λ (m : Table). changed m (Map e.page e.frame)) first)) two

applied_table : (v : RecencyView) (e : Planned) → IsRecencyTable v → IsLawfulEntry v e → IsRecencyTable (applied v e)
applied_table v e table l = by_victim e.victim refl where
  by_victim : (o : Option ℕ) → e.victim ≡ o → IsRecencyTable (applied v e)
  by_victim None is = let a = applied_none v e _ table l is refl in subst IsRecencyTable a.view a.table
  by_victim (Some q) is = let a = applied_some v e q _ table l is refl in subst IsRecencyTable a.view a.table

step_agrees : (b : Bool) (v : RecencyView) (ks : List Change) (e : Planned) → IsRecencyTable v → IsLawfulEntry v e → RecencyAgrees v (newest ks)
    → RecencyAgrees (cond b v (applied v e)) (newest (ks ++ changes_of (group_of e b)))
step_agrees true v ks e table l agrees = subst (λ (js : List Change). RecencyAgrees v (newest js)) (sym (append-nil ks)) agrees
step_agrees false v ks e table l agrees = applied_agrees v ks e table l agrees

step_table : (b : Bool) (v : RecencyView) (e : Planned) → IsRecencyTable v → IsLawfulEntry v e → IsRecencyTable (cond b v (applied v e))
step_table true v e table l = table
step_table false v e table l = applied_table v e table l

-- the tickets from one on, the last first
down_to : ℕ → ℕ → List ℕ
down_to j zero = []
down_to j (suc m) = down_to (suc j) m ++ j ∷ []

down_is : (j m : ℕ) → reverse (range_with_len j m) ≡ down_to j m
unfolding down_to
down_is j zero = refl
down_is j (suc m) =
    let next : j + 1 ≡ suc j = omega arith in
    reverse-append (j ∷ []) (range_with_len (j + 1) m) ∙ ap (λ (xs : List ℕ). xs ++ j ∷ []) (ap (λ k. reverse (range_with_len k m)) next ∙ down_is (suc j) m)

-- the entries from one on are settled, and agree with the journal
record IsSettledFrom (old : RecencyView) (js : List Change) (batch : List Planned) (losses : List Bool) (j m : ℕ) : Type 0 where
  pub now : RecencyView
  pub settled : IsSettledByReads old (read_entries (drop j batch) (drop j losses)) now
  pub table : IsRecencyTable now
  pub lawful : (i : ℕ) (d : Planned) → i < j → IsLawfulEntry now (get_or batch i d)
  pub agrees : RecencyAgrees now (newest (js ++ changes_of (pass_events batch losses (down_to j m))))

more_changes : (js : List Change) (batch : List Planned) (losses : List Bool) (xs : List ℕ) (j : ℕ) (e : Planned) → slice_get batch j ≡ Some e
    → js ++ changes_of (pass_events batch losses (xs ++ j ∷ [])) ≡ (js ++ changes_of (pass_events batch losses xs))
    ++ changes_of (group_of e (slice_index_or losses j true))
more_changes js batch losses xs j e at =
    ap (λ (es : List Event). js ++ changes_of es) (flat_map-append (group_at batch losses) xs (j ∷ [])
    ∙ ap (λ (es : List Event). pass_events batch losses xs ++ es) (append-nil (group_at batch losses j)
    ∙ ap (λ (o : Option Planned). group_if o (slice_index_or losses j true)) at))
    ∙ ap (λ (cs : List Change). js ++ cs) (changes_of-append (pass_events batch losses xs) (group_of e (slice_index_or losses j true)))
    ∙ sym (append_assoc js (changes_of (pass_events batch losses xs)) (changes_of (group_of e (slice_index_or losses j true))))

settled_from : (old : RecencyView) (js : List Change) (batch : List Planned) (losses : List Bool) (m j : ℕ) → IsRecencyTable old → IsLawfulBatch old batch
    → length losses ≡ length batch
    → RecencyAgrees old (newest js) → j + m ≡ length batch → IsSettledFrom old js batch losses j m
unfolding down_to
settled_from old js batch losses zero j table laws lengths agrees all =
    let at_end : length batch ≡ j = omega (arith, all) in
    record {
      now = old;
      settled = subst (λ k. IsSettledByReads old (read_entries (drop k batch) (drop k losses)) old) at_end (nothing_read old batch losses);
      table = table;
      lawful = λ i d below. laws.each i d (omega (arith, below, at_end));
      agrees = subst (λ (ks : List Change). RecencyAgrees old (newest ks)) (sym (append-nil js)) agrees;
    }
settled_from old js batch losses (suc m) j table laws lengths agrees all =
    let r = settled_from old js batch losses m (suc j) table laws lengths agrees (omega (arith, all)) in
    let d : Planned = record { page = 0; frame = 0; victim = None } in
    let e : Planned = get_or batch j d in
    let b : Bool = get_or losses j true in
    let inside : j < length batch = omega (arith, all) in
    let mine : IsLawfulEntry r.now (get_or batch j d) = r.lawful j d (omega arith) in
    let step = settle_step old r.now (cond b r.now (applied r.now e)) batch losses j d e b inside lengths
    (get_or_default losses j true b (omega (arith, inside, lengths)))
    (get_or_default batch j d e inside) laws table r.table r.settled r.lawful refl in
    record {
      now = cond b r.now (applied r.now e);
      settled = step.settled;
      table = step_table b r.now e r.table mine;
      lawful = step.lawful;
      agrees = subst (λ (ks : List Change). RecencyAgrees (cond b r.now (applied r.now e)) (newest ks))
          (sym (more_changes js batch losses (down_to (suc j) m) j e (slice_get-get_or batch j d inside)))
          (step_agrees b r.now (js ++ changes_of (pass_events batch losses (down_to (suc j) m))) e r.table mine r.agrees);
    }

-- the entry of a page among those that were read
reads_page : (reads : List Planned) (p : ℕ) → is_read reads p ≡ true → (e : Planned) × Contains reads e × (e.page ≡ p)
reads_page [] p is = absurd (false≢true is)
reads_page (e ∷ reads) p is = pick (nat_eq e.page p) refl is (reads_page reads p) where
  pick : (b : Bool) → nat_eq e.page p ≡ b → (b || is_read reads p) ≡ true → (is_read reads p ≡ true → (f : Planned) × Contains reads f × (f.page ≡ p))
      → (f : Planned) × Contains (e ∷ reads) f × (f.page ≡ p)
  pick true same rest more = (e, (zero, omega arith, refl), nat_eq_true e.page p same)
  pick false other rest more = let f = more rest in (f.0, contains_tail e reads f.0 f.1, f.2)

-- a table that is settled is one
settled_entries : (old : List ℕ) (reads : List Planned) (a b : List ℕ) → IsSettledTable old reads a → IsSettledTable old reads b → (p : ℕ)
    → slice_index a p ≡ slice_index b p
settled_entries old reads a b one two p = test (is_read reads p) refl (is_victim reads p) refl where
  test : (r : Bool) → is_read reads p ≡ r → (k : Bool) → is_victim reads p ≡ k → slice_index a p ≡ slice_index b p
  test true read k is = let e = reads_page reads p read in
      subst (λ q. slice_index a q ≡ slice_index b q) e.2 (one.mapped e.0 e.1 ∙ sym (two.mapped e.0 e.1))
  test false read true is = one.unmapped p is ∙ sym (two.unmapped p is)
  test false read false is = one.kept p read is ∙ sym (two.kept p read is)

past : (xs : List ℕ) (k : ℕ) → length xs ≤ k → slice_get xs k ≡ None
past [] k few = refl
past (x ∷ xs) zero few = absurd (omega (arith, few))
past (x ∷ xs) (suc k) few = past xs k (omega (arith, few))

same_entries : (a b : List ℕ) → length a ≡ length b → ((p : ℕ) → slice_index a p ≡ slice_index b p) → a ≡ b
same_entries a b count each = same_lists a b
    (λ k inside. slice_get-get_or a k 0 (omega (arith, inside, count)) ∙ ap Some (each k)
    ∙ sym (slice_get-get_or b k 0 inside)) (past a (length b) (omega (arith, count)))

pub settled_one : (old a b : RecencyView) (reads : List Planned) → IsSettledByReads old reads a → IsSettledByReads old reads b → a ≡ b
settled_one old a b reads one two =
    let entries : a.entries ≡ b.entries = same_entries a.entries b.entries (one.table.same_length
    ∙ sym two.table.same_length) (settled_entries old.entries reads a.entries b.entries one.table two.table) in
    λ i. record {
      shape = (one.shape ∙ sym two.shape) i;
      frames = (one.frames ∙ sym two.frames) i;
      pinned = (one.pinned ∙ sym two.pinned) i;
      entries = entries i;
      order = (one.order ∙ sym two.order) i;
    }

-- what a pass leaves: a table, which agrees with the journal
pub record IsKeptUp (new : RecencyView) (js : List Change) : Type 0 where
  pub table : IsRecencyTable new
  pub agrees : RecencyAgrees new (newest js)

pub settled_agrees : (old new : RecencyView) (js : List Change) (batch : List Planned) (losses : List Bool) (events : List Event) → IsRecencyTable old
    → RecencyAgrees old (newest js) → IsLawfulBatch old batch
    → IsOutcome batch losses events → IsSettledByReads old (read_entries batch losses) new → IsKeptUp new (js ++ changes_of events)
settled_agrees old new js batch losses events table agrees laws outcome settled =
    let r = settled_from old js batch losses (length batch) 0 table laws outcome.reported agrees (omega arith) in
    let same : r.now ≡ new = settled_one old r.now new (read_entries batch losses) r.settled settled in
    let other : IsOutcome batch losses (pass_events batch losses (down_to 0 (length batch))) = record {
      reported = outcome.reported;
      order = down_to 0 (length batch);
      each_once = subst (IsPermutation (range_with_len 0 (length batch))) (down_is 0 (length batch)) (IsPermutation-reverse (range_with_len 0 (length batch)));
      groups = refl;
    } in
    let tables = any_order old.shape old.frames js batch losses events (pass_events batch losses (down_to 0 (length batch)))
    (may_be_run old (newest js) batch table agrees laws) outcome other in
    record {
      table = subst IsRecencyTable same r.table;
      agrees = subst (RecencyAgrees new) (sym tables) (subst (λ (v : RecencyView). RecencyAgrees v
          (newest (js ++ changes_of (pass_events batch losses (down_to 0 (length batch)))))) same r.agrees);
    }

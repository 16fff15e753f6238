-- What a round of requests is for the batch whose tiles they ask for.
use Rattle.std.proofs.Common.{◌≡◌, ℕ, zero, suc, ◌+◌, ◌<◌, ◌≤◌, inl, inr, ◌⊎◌, Bool, true, false, cond, not, ◌&&◌, ◌||◌, List, [], ◌∷◌, ◌++◌, length, map, get_or, Option, Some, None, refl, sym, ap, ◌∙◌, subst, add-one, arith}
use Rattle.std.specs.Prelude.{slice_get, is_some, unwrap_or, option_map, sum_by, nat_le, IsSome, All, IsPermutation}
use Rattle.std.specs.List.{list_any, range_with_len}
use Rattle.std.proofs.lemmas.Bool.{false≢true, cases_lt}
use Rattle.std.proofs.lemmas.Bool.Decides.{nat_tests}
use Rattle.std.proofs.lemmas.List.{map-append}
use Rattle.std.proofs.lemmas.List.Sums.{sum_by-append, sum_by-cons}
use Rattle.std.proofs.lemmas.List.Sorted.{IsPermutation-map, All-permutation, sum_by-IsPermutation}
use Rattle.std.proofs.lemmas.List.Elements.{All-nil, All-cons, All-head, All-tail}
use Rattle.vt_outside.specs.declared.place.Place.{Place}
use Rattle.vt_outside.specs.declared.outside.File.{Ghosts as FileMeanings}
use Rattle.vt_outside.specs.Places.{times_asked, times_failed, is_read_of}
use Rattle.vt_outside.specs.Counts.{RoseBy, RoseTogetherBy, count_end}
use Rattle.vt_table.specs.Shape.{Shape}
use Rattle.vt_table.specs.JournalTypes.changes.Event.{Event}
use Rattle.vt_machine.specs.PlanTypes.batches.Planned.{Planned}
use Rattle.vt_machine.specs.Batches.{read_entries}
use Rattle.vt_load.specs.QueueTypes.items.Loaded.{Loaded}
use Rattle.vt_load.specs.Orders.{items_of}
use Rattle.vt_load.specs.Readings.{is_lost}
use Rattle.vt_load.specs.Results.{answered_by, read_place, lost_among, IsReadFor}
use Rattle.vt_load.specs.Together.{Portion, all_put}
use Rattle.vt_load.specs.QueuedLoaders.{QueuedView, stores_of}
use Rattle.vt_load.specs.Rounds.{Round, AreServed}
use Rattle.vt_load.proofs.Dealing.{all_unmap}
use Rattle.vt_machine.specs.Outcomes.{lost_count, group_if, pass_events, IsOrder, IsOutcome}
use Rattle.vt_machine.specs.Requests.{FileState, AllKnown, times_asked_by, times_failed_by, is_tile_at, times_planned, lost_entries, counts_of, AreReadFor}
use Rattle.vt_machine.specs.Machines.{file_state, files_of}
use Rattle.vt_requests.specs.BatchRounds.{page_if, entry_asks, AreRequestsOf, tickets_of, result_events, AreLossesOf, IsResultOf}

sum_map : {X Y : Type 0} (h : Y → ℕ) (f : X → Y) (xs : List X) → sum_by h (map f xs) ≡ sum_by (λ x. h (f x)) xs
sum_map h f [] = refl
sum_map h f (x ∷ xs) = sum_by-cons h (f x) (map f xs) ∙ ap (λ n. h (f x) + n) (sum_map h f xs) ∙ sym (sum_by-cons (λ y. h (f y)) x xs)

-- The tickets of what requests ask for, and of what results answer.
asked_tickets : (batch : List Planned) (ts : List ℕ) → map (λ (p : ℕ × ℕ). p.0) (map (entry_asks batch) ts) ≡ ts
asked_tickets batch [] = refl
asked_tickets batch (t ∷ ts) = ap (λ l. t ∷ l) (asked_tickets batch ts)

given_tickets : (xs : List Loaded) → map (λ (p : ℕ × ℕ). p.0) (map answered_by xs) ≡ tickets_of xs
given_tickets [] = refl
given_tickets (x ∷ xs) = ap (λ l. x.request.ticket ∷ l) (given_tickets xs)

below : (a n m : ℕ) → a + n ≤ m → All (λ (t : ℕ). t < m) (range_with_len a n)
below a zero m le = All-nil (λ (t : ℕ). t < m)
below a (suc n) m le = All-cons (λ (t : ℕ). t < m) a (range_with_len (a + 1) n) (omega (arith, le)) (below (a + 1) n m (omega (arith, le)))

asked_so : (batch : List Planned) (n : ℕ) (ts : List ℕ) → All (λ (t : ℕ). t < n) ts
    → All (λ (p : ℕ × ℕ). (p.0 < n) × (p.1 ≡ page_if (slice_get batch p.0))) (map (entry_asks batch) ts)
asked_so batch n [] all = All-nil (λ (p : ℕ × ℕ). (p.0 < n) × (p.1 ≡ page_if (slice_get batch p.0)))
asked_so batch n (t ∷ ts) all = All-cons (λ (p : ℕ × ℕ). (p.0 < n) × (p.1 ≡ page_if (slice_get batch p.0))) (entry_asks batch t) (map (entry_asks batch) ts)
    (All-head (λ (u : ℕ). u < n) t ts all, refl) (asked_so batch n ts (All-tail (λ (u : ℕ). u < n) t ts all))

-- Sums over results are sums over their tickets, and those over all tickets of a batch are sums over the batch.
sum_tickets : (f : Loaded → ℕ) (h : ℕ → ℕ) (xs : List Loaded) → All (λ x. f x ≡ h x.request.ticket) xs → sum_by f xs ≡ sum_by h (tickets_of xs)
sum_tickets f h [] all = refl
sum_tickets f h (x ∷ xs) all = sum_by-cons f x xs
    ∙ (λ i. All-head (λ y. f y ≡ h y.request.ticket) x xs all i + sum_tickets f h xs (All-tail (λ y. f y ≡ h y.request.ticket) x xs all) i)
    ∙ sym (sum_by-cons h x.request.ticket (tickets_of xs))

sum_shift : (h : ℕ → ℕ) (a n : ℕ) → sum_by h (range_with_len (a + 1) n) ≡ sum_by (λ t. h (suc t)) (range_with_len a n)
sum_shift h a zero = refl
sum_shift h a (suc n) = sum_by-cons h (a + 1) (range_with_len (a + 1 + 1) n)
    ∙ (λ i. h ((let e : a + 1 ≡ suc a = add-one a in e) i) + sum_shift h (a + 1) n i)
    ∙ sym (sum_by-cons (λ t. h (suc t)) a (range_with_len (a + 1) n))

sum_both : (Option Planned → Bool → ℕ) → List Planned → List Bool → ℕ
sum_both k [] losses = 0
sum_both k (e ∷ batch) [] = 0
sum_both k (e ∷ batch) (l ∷ losses) = k (Some e) l + sum_both k batch losses

sum_range : (k : Option Planned → Bool → ℕ) (batch : List Planned) (losses : List Bool) → length losses ≡ length batch
    → sum_by (λ t. k (slice_get batch t) (get_or losses t true)) (range_with_len 0 (length batch)) ≡ sum_both k batch losses
unfolding sum_both
sum_range k [] losses same = refl
sum_range k (e ∷ batch) [] same = absurd (omega (arith, same))
sum_range k (e ∷ batch) (l ∷ losses) same =
    let h : ℕ → ℕ = λ t. k (slice_get (e ∷ batch) t) (get_or (l ∷ losses) t true) in
    sum_by-cons h 0 (range_with_len 1 (length batch))
    ∙ ap (λ n. k (Some e) l + n) (sum_shift h 0 (length batch) ∙ sum_range k batch losses (omega (arith, same)))

and_true : (b : Bool) → (b && true) ≡ b
and_true true = refl
and_true false = refl

and_false : (b : Bool) → (b && false) ≡ false
and_false true = refl
and_false false = refl

sum_lost : (batch : List Planned) (losses : List Bool) → length losses ≡ length batch → sum_both (λ o l. cond l 1 0) batch losses ≡ lost_count losses
unfolding sum_both
sum_lost [] [] same = refl
sum_lost [] (l ∷ losses) same = absurd (omega (arith, same))
sum_lost (e ∷ batch) [] same = absurd (omega (arith, same))
sum_lost (e ∷ batch) (l ∷ losses) same = ap (λ n. cond l 1 0 + n) (sum_lost batch losses (omega (arith, same)))
    ∙ sym (sum_by-cons (λ (b : Bool). cond b 1 0) l losses)

module _ (s : Shape) (d at len : ℕ) where
  sum_planned : (batch : List Planned) (losses : List Bool) → length losses ≡ length batch
      → sum_both (λ o l. cond (is_tile_at s d at len (page_if o)) 1 0) batch losses ≡ times_planned s d batch at len
  unfolding sum_both
  sum_planned [] losses same = refl
  sum_planned (e ∷ batch) [] same = absurd (omega (arith, same))
  sum_planned (e ∷ batch) (l ∷ losses) same = ap (λ n. cond (is_tile_at s d at len e.page) 1 0 + n) (sum_planned batch losses (omega (arith, same)))
      ∙ sym (sum_by-cons (λ (x : Planned). cond (is_tile_at s d at len x.page) 1 0) e batch)

  sum_lost_planned : (batch : List Planned) (losses : List Bool)
      → sum_both (λ o l. cond (is_tile_at s d at len (page_if o) && l) 1 0) batch losses ≡ times_planned s d (lost_entries batch losses) at len
  unfolding sum_both
  sum_lost_planned [] losses = refl
  sum_lost_planned (e ∷ batch) [] = refl
  sum_lost_planned (e ∷ batch) (true ∷ losses) = (λ i. cond (and_true (is_tile_at s d at len e.page) i) 1 0 + sum_lost_planned batch losses i)
      ∙ sym (sum_by-cons (λ (x : Planned). cond (is_tile_at s d at len x.page) 1 0) e (read_entries batch (map not losses)))
  sum_lost_planned (e ∷ batch) (false ∷ losses) = (λ i. cond (and_false (is_tile_at s d at len e.page) i) 1 0 + sum_lost_planned batch losses i)
      ∙ (let z : 0 + times_planned s d (lost_entries batch losses) at len ≡ times_planned s d (lost_entries batch losses) at len = omega arith in z)

  -- How often a place was asked, and failed, by a file that was read for results.
  asked_by : (o p : Option (List Place)) (results : List Loaded) → p ≡ option_map (λ places. places ++ map (read_place s d) results) o → IsSome o
      → times_asked at len (unwrap_or p []) ≡ times_asked at len (unwrap_or o []) + sum_by (λ x. cond (is_tile_at s d at len x.request.page) 1 0) results
  asked_by None p results e some = absurd (false≢true some)
  asked_by (Some places) p results e some = ap (λ q. times_asked at len (unwrap_or q [])) e
      ∙ sum_by-append (λ (y : Place). cond (is_read_of at len y) 1 0) places (map (read_place s d) results)
      ∙ ap (λ n. times_asked at len places + n) (sum_map (λ (y : Place). cond (is_read_of at len y) 1 0) (read_place s d) results)

  failed_by : (o p : Option (List Place)) (results : List Loaded) → p ≡ option_map (λ places. places ++ map (read_place s d) results) o → IsSome o
      → times_failed at len (unwrap_or p []) ≡ times_failed at len (unwrap_or o []) + sum_by
      (λ x. cond (is_tile_at s d at len x.request.page && is_lost x.outcome) 1 0) results
  failed_by None p results e some = absurd (false≢true some)
  failed_by (Some places) p results e some = ap (λ q. times_failed at len (unwrap_or q [])) e
      ∙ sum_by-append (λ (y : Place). cond (is_read_of at len y && y.failed) 1 0) places (map (read_place s d) results)
      ∙ ap (λ n. times_failed at len places + n) (sum_map (λ (y : Place). cond (is_read_of at len y && y.failed) 1 0) (read_place s d) results)

or_right : (b c : Bool) → c ≡ true → (b || c) ≡ true
or_right true c e = refl
or_right false c e = e

known_stays : (o : Option (List Place)) (f : List Place → List Place) → is_some (option_map f o) ≡ is_some o
known_stays None f = refl
known_stays (Some places) f = refl

module _ {F : Type 0} (g : FileMeanings F) (s : Shape) (d : ℕ) where
  befores : List (Portion F) → List FileState
  befores ps = map (λ p. file_state g p.before) ps

  afters : List (Portion F) → List FileState
  afters ps = map (λ p. file_state g p.after) ps

  -- Sums over files that were read for portions.
  sum_files : (t : FileState → ℕ) (f : Loaded → ℕ) (ps : List (Portion F))
      → All (λ p. t (file_state g p.after) ≡ t (file_state g p.before) + sum_by f (items_of p.put)) ps
      → sum_by t (afters ps) ≡ sum_by t (befores ps) + sum_by f (items_of (all_put ps))
  unfolding befores afters
  sum_files t f [] all = refl
  sum_files t f (p ∷ ps) all =
      let one = All-head (λ (q : Portion F). t (file_state g q.after) ≡ t (file_state g q.before) + sum_by f (items_of q.put)) p ps all in
      let rest = sum_files t f ps (All-tail (λ (q : Portion F). t (file_state g q.after) ≡ t (file_state g q.before) + sum_by f (items_of q.put)) p ps all) in
      let a = sum_by-cons t (file_state g p.after) (afters ps) in
      let b = sum_by-cons t (file_state g p.before) (befores ps) in
      let c : sum_by f (items_of (p.put ++ all_put ps)) ≡ sum_by f (items_of p.put) + sum_by f (items_of (all_put ps))
      = ap (sum_by f) (map-append (λ (e : ℕ × Loaded). e.1) p.put (all_put ps)) ∙ sum_by-append f (items_of p.put) (items_of (all_put ps)) in
      omega (arith, one, rest, a, b, c)

  each_asked : (at len : ℕ) (ps : List (Portion F)) → AllKnown (befores ps) → All (λ p. IsReadFor g s d (items_of p.put) p.before p.after) ps
      → All (λ p. times_asked at len (unwrap_or (g.asked p.after) []) ≡ times_asked at len (unwrap_or (g.asked p.before) [])
      + sum_by (λ x. cond (is_tile_at s d at len x.request.page) 1 0) (items_of p.put)) ps
  unfolding befores
  each_asked at len [] all_known all = All-nil (λ (p : Portion F). times_asked at len (unwrap_or (g.asked p.after) []) ≡ times_asked at len
      (unwrap_or (g.asked p.before) [])
      + sum_by (λ x. cond (is_tile_at s d at len x.request.page) 1 0) (items_of p.put))
  each_asked at len (p ∷ ps) all_known all = All-cons (λ (p : Portion F). times_asked at len (unwrap_or (g.asked p.after) []) ≡ times_asked at len
      (unwrap_or (g.asked p.before) [])
      + sum_by (λ x. cond (is_tile_at s d at len x.request.page) 1 0) (items_of p.put)) p ps
      (asked_by s d at len (g.asked p.before) (g.asked p.after) (items_of p.put)
      (All-head (λ (p : Portion F). IsReadFor g s d (items_of p.put) p.before p.after) p ps all).asked
      (All-head (λ (f : FileState). IsSome f.asked) (file_state g p.before) (befores ps) all_known))
      (each_asked at len ps (All-tail (λ (f : FileState). IsSome f.asked) (file_state g p.before) (befores ps) all_known)
      (All-tail (λ (p : Portion F). IsReadFor g s d (items_of p.put) p.before p.after) p ps all))

  each_failed : (at len : ℕ) (ps : List (Portion F)) → AllKnown (befores ps) → All (λ p. IsReadFor g s d (items_of p.put) p.before p.after) ps
      → All (λ p. times_failed at len (unwrap_or (g.asked p.after) []) ≡ times_failed at len (unwrap_or (g.asked p.before) [])
      + sum_by (λ x. cond (is_tile_at s d at len x.request.page && is_lost x.outcome) 1 0) (items_of p.put)) ps
  unfolding befores
  each_failed at len [] all_known all = All-nil (λ (p : Portion F). times_failed at len (unwrap_or (g.asked p.after) []) ≡ times_failed at len
      (unwrap_or (g.asked p.before) [])
      + sum_by (λ x. cond (is_tile_at s d at len x.request.page && is_lost x.outcome) 1 0) (items_of p.put))
  each_failed at len (p ∷ ps) all_known all = All-cons (λ (p : Portion F). times_failed at len (unwrap_or (g.asked p.after) []) ≡ times_failed at len
      (unwrap_or (g.asked p.before) [])
      + sum_by (λ x. cond (is_tile_at s d at len x.request.page && is_lost x.outcome) 1 0) (items_of p.put)) p ps
      (failed_by s d at len (g.asked p.before) (g.asked p.after) (items_of p.put)
      (All-head (λ (p : Portion F). IsReadFor g s d (items_of p.put) p.before p.after) p ps all).asked
      (All-head (λ (f : FileState). IsSome f.asked) (file_state g p.before) (befores ps) all_known))
      (each_failed at len ps (All-tail (λ (f : FileState). IsSome f.asked) (file_state g p.before) (befores ps) all_known)
      (All-tail (λ (p : Portion F). IsReadFor g s d (items_of p.put) p.before p.after) p ps all))

  same_names : (ps : List (Portion F)) → All (λ p. IsReadFor g s d (items_of p.put) p.before p.after) ps
      → map (λ (f : FileState). f.name) (afters ps) ≡ map (λ (f : FileState). f.name) (befores ps)
  unfolding befores afters
  same_names [] all = refl
  same_names (p ∷ ps) all = λ i. (All-head (λ (q : Portion F). IsReadFor g s d (items_of q.put) q.before q.after) p ps all).name i
      ∷ same_names ps (All-tail (λ (q : Portion F). IsReadFor g s d (items_of q.put) q.before q.after) p ps all) i

  same_known_too : (ps : List (Portion F)) → All (λ p. IsReadFor g s d (items_of p.put) p.before p.after) ps
      → map (λ (f : FileState). is_some f.asked) (afters ps) ≡ map (λ (f : FileState). is_some f.asked) (befores ps)
  unfolding befores afters
  same_known_too [] all = refl
  same_known_too (p ∷ ps) all =
      let one = All-head (λ (q : Portion F). IsReadFor g s d (items_of q.put) q.before q.after) p ps all in
      λ i. (ap is_some one.asked ∙ known_stays (g.asked p.before) (λ places. places ++ map (read_place s d) (items_of p.put))) i
      ∷ same_known_too ps (All-tail (λ (q : Portion F). IsReadFor g s d (items_of q.put) q.before q.after) p ps all) i

  -- The counts rose together by the lost results.
  rose_all : (ps : List (Portion F)) → All (λ p. IsReadFor g s d (items_of p.put) p.before p.after) ps
      → RoseTogetherBy (lost_among (items_of (all_put ps))) (counts_of (befores ps)) (counts_of (afters ps))
  unfolding befores afters
  rose_all [] all = inl (omega arith)
  rose_all (p ∷ ps) all = pick (cases_lt (g.faults p.after) count_end)
      (rose_all ps (All-tail (λ (q : Portion F). IsReadFor g s d (items_of q.put) q.before q.after) p ps all)) where
        rose : RoseBy (lost_among (items_of p.put)) (g.faults p.before) (g.faults p.after)
        rose = (All-head (λ (q : Portion F). IsReadFor g s d (items_of q.put) q.before q.after) p ps all).faults

        lost : lost_among (items_of (p.put ++ all_put ps)) ≡ lost_among (items_of p.put) + lost_among (items_of (all_put ps))
        lost = ap lost_among (map-append (λ (e : ℕ × Loaded). e.1) p.put (all_put ps))
            ∙ sum_by-append (λ (x : Loaded). cond (is_lost x.outcome) 1 0) (items_of p.put) (items_of (all_put ps))

        pick : (g.faults p.after < count_end) ⊎ (count_end ≤ g.faults p.after)
            → RoseTogetherBy (lost_among (items_of (all_put ps))) (counts_of (befores ps)) (counts_of (afters ps))
            → RoseTogetherBy (lost_among (items_of (p.put ++ all_put ps))) (g.faults p.before ∷ counts_of (befores ps)) (g.faults p.after ∷ counts_of (afters ps))
        pick (inr high) more = let e : nat_le count_end (g.faults p.after) ≡ true = grind (arith, nat_tests, high) in
            inr (ap (λ (b : Bool). b || list_any (nat_le count_end) (counts_of (afters ps))) e)
        pick (inl low) (inr any) = inr (or_right (nat_le count_end (g.faults p.after)) (list_any (nat_le count_end) (counts_of (afters ps))) any)
        pick (inl low) (inl sums) =
            let a = sum_by-cons (λ (n : ℕ). n) (g.faults p.before) (counts_of (befores ps)) in
            let b = sum_by-cons (λ (n : ℕ). n) (g.faults p.after) (counts_of (afters ps)) in
            inl (omega (arith, a, b, lost, rose, low, sums))

  store_files : (ls : List (QueuedView F)) → files_of g (stores_of ls) ≡ map (file_state g) (map (λ (l : QueuedView F). l.loader.store.file) ls)
  store_files [] = refl
  store_files (l ∷ ls) = ap (λ k. file_state g l.loader.store.file ∷ k) (store_files ls)

  before_files : (ps : List (Portion F)) → befores ps ≡ map (file_state g) (map (λ (p : Portion F). p.before) ps)
  unfolding befores
  before_files [] = refl
  before_files (p ∷ ps) = ap (λ k. file_state g p.before ∷ k) (before_files ps)

  after_files : (ps : List (Portion F)) → afters ps ≡ map (file_state g) (map (λ (p : Portion F). p.after) ps)
  unfolding afters
  after_files [] = refl
  after_files (p ∷ ps) = ap (λ k. file_state g p.after ∷ k) (after_files ps)

  module _ (known : Option (List ℕ)) (r : Round F) (served : AreServed g s d known r) (batch : List Planned)
      (requests : AreRequestsOf batch (items_of r.asks.put)) where
    all_given : IsPermutation (map (entry_asks batch) (range_with_len 0 (length batch))) (map answered_by r.results)
    all_given = subst (λ l. IsPermutation l (map answered_by r.results)) requests served.each

    pub tickets_once : IsOrder (length batch) (tickets_of r.results)
    tickets_once = subst (λ l. IsPermutation l (tickets_of r.results)) (asked_tickets batch (range_with_len 0 (length batch)))
        (subst (λ l. IsPermutation (map (λ (p : ℕ × ℕ). p.0) (map (entry_asks batch) (range_with_len 0 (length batch)))) l) (given_tickets r.results)
        (IsPermutation-map (λ (p : ℕ × ℕ). p.0) _ _ all_given))

    so : All (λ (x : Loaded). (x.request.ticket < length batch) × (x.request.page ≡ page_if (slice_get batch x.request.ticket))) r.results
    so = all_unmap (λ (p : ℕ × ℕ). (p.0 < length batch) × (p.1 ≡ page_if (slice_get batch p.0))) answered_by r.results
        (All-permutation (λ (p : ℕ × ℕ). (p.0 < length batch) × (p.1 ≡ page_if (slice_get batch p.0))) _ _ all_given
        (asked_so batch (length batch) (range_with_len 0 (length batch)) (below 0 (length batch) (length batch) (omega arith))))

    pub results_of_entries : All (IsResultOf batch) r.results
    results_of_entries k e inside = let h = so k e inside in record { inside = h.0; page = h.1 }

    -- A sum over the results of all portions is one over the batch.
    sum_batch : (f : Loaded → ℕ) (k : Option Planned → Bool → ℕ) (losses : List Bool) → length losses ≡ length batch
        → All (λ x. f x ≡ k (slice_get batch x.request.ticket) (get_or losses x.request.ticket true)) r.results
        → sum_by f (items_of (all_put served.portions)) ≡ sum_both k batch losses
    sum_batch f k losses same each =
        let h : ℕ → ℕ = λ t. k (slice_get batch t) (get_or losses t true) in
        sym (sum_by-IsPermutation f _ _ served.among)
        ∙ sum_tickets f h r.results each
        ∙ sum_by-IsPermutation h _ _ tickets_once
        ∙ sum_range k batch losses same

    module _ (losses : List Bool) (losses_are : AreLossesOf batch r.results losses) where
      planned : (at len : ℕ) → sum_by (λ x. cond (is_tile_at s d at len x.request.page) 1 0) (items_of (all_put served.portions)) ≡ times_planned s d
          batch at len
      planned at len = sum_batch (λ x. cond (is_tile_at s d at len x.request.page) 1 0) (λ o l. cond (is_tile_at s d at len (page_if o)) 1 0) losses
          losses_are.reported
          (λ k e inside. ap (λ (p : ℕ). cond (is_tile_at s d at len p) 1 0) (so k e inside).1)
          ∙ sum_planned s d at len batch losses losses_are.reported

      lost_planned : (at len : ℕ) → sum_by (λ x. cond (is_tile_at s d at len x.request.page && is_lost x.outcome) 1 0) (items_of (all_put served.portions))
          ≡ times_planned s d (lost_entries batch losses) at len
      lost_planned at len = sum_batch (λ x. cond (is_tile_at s d at len x.request.page && is_lost x.outcome) 1 0)
          (λ o l. cond (is_tile_at s d at len (page_if o) && l) 1 0)
          losses losses_are.reported
          (λ k e inside i. cond (is_tile_at s d at len ((so k e inside).1 i) && sym (losses_are.each k e inside) i) 1 0)
          ∙ sum_lost_planned s d at len batch losses

      lost_together : lost_among (items_of (all_put served.portions)) ≡ lost_count losses
      lost_together = sum_batch (λ x. cond (is_lost x.outcome) 1 0) (λ o l. cond l 1 0) losses losses_are.reported
          (λ k e inside i. cond (sym (losses_are.each k e inside) i) 1 0)
          ∙ sum_lost batch losses losses_are.reported

      portions_read : AreReadFor s d batch losses (befores served.portions) (afters served.portions)
      portions_read = record {
        same = record { names = same_names served.portions served.files; all_known = same_known_too served.portions served.files };
        once = λ all_known. record {
          asked = λ at len. sum_files (λ (f : FileState). times_asked at len (unwrap_or f.asked []))
              (λ x. cond (is_tile_at s d at len x.request.page) 1 0) served.portions
              (each_asked at len served.portions all_known served.files)
              ∙ ap (λ n. times_asked_by (befores served.portions) at len + n) (planned at len);
          failed = λ at len. sum_files (λ (f : FileState). times_failed at len (unwrap_or f.asked []))
              (λ x. cond (is_tile_at s d at len x.request.page && is_lost x.outcome) 1 0) served.portions
              (each_failed at len served.portions all_known served.files)
              ∙ ap (λ n. times_failed_by (befores served.portions) at len + n) (lost_planned at len);
        };
        faults = subst (λ n. RoseTogetherBy n (counts_of (befores served.portions)) (counts_of (afters served.portions))) lost_together
            (rose_all served.portions served.files);
      }

      pub round_read : AreReadFor s d batch losses (files_of g (stores_of r.first)) (files_of g (stores_of r.last))
      round_read = subst (λ (z : List FileState × List FileState). AreReadFor s d batch losses z.0 z.1)
          (λ i. (
            (before_files served.portions ∙ ap (map (file_state g)) served.befores ∙ sym (store_files r.first)) i,
            (after_files served.portions ∙ ap (map (file_state g)) served.afters ∙ sym (store_files r.last)) i,
          )) portions_read

      groups_same : (xs : List Loaded) → All (λ x. get_or losses x.request.ticket true ≡ is_lost x.outcome) xs
          → result_events batch xs ≡ pass_events batch losses (tickets_of xs)
      groups_same [] all = refl
      groups_same (x ∷ xs) all =
          λ i. group_if (slice_get batch x.request.ticket) (sym (All-head (λ y. get_or losses y.request.ticket true ≡ is_lost y.outcome) x xs all) i)
          ++ groups_same xs (All-tail (λ y. get_or losses y.request.ticket true ≡ is_lost y.outcome) x xs all) i

      pub round_outcome : (events : List Event) → events ≡ result_events batch r.results → IsOutcome batch losses events
      round_outcome events e = record {
        reported = losses_are.reported;
        order = tickets_of r.results;
        each_once = tickets_once;
        groups = e ∙ groups_same r.results losses_are.each;
      }

-- Each plan is lawful for its table.
use Rattle.std.proofs.Common.{◌≡◌, ◌≢◌, ℕ, zero, suc, ◌+◌, ◌-◌, ◌<◌, ◌≤◌, inl, inr, Bool, true, false, not, cond, ◌&&◌, nat_eq, nat_lt, nat_le, None, Some, List, [], ◌∷◌, ◌++◌, map, length, slice_index, reverse, refl, sym, ap, ◌∙◌, subst, arith}
use Rattle.std.specs.List.{All, AllByRecursion, IsDistinct, filter, range_with_len}
use Rattle.std.proofs.lemmas.Bool.{false≢true, cases_lt}
use Rattle.std.proofs.lemmas.Bool.Decides.{Decides-eqb, nat_tests}
use Rattle.std.proofs.lemmas.List.{get_or_append_left, get_or-append-add, get_or-map}
use Rattle.std.proofs.lemmas.List.Elements.{All-from_recursion, recursion_from_All, All-map, All-get_or, All-from_get_or}
use Rattle.std.proofs.lemmas.List.Folds.{list_any_at}
use Rattle.std.proofs.lemmas.List.FromFn.{get_or-map-range_with_len, length-map-range_with_len}
use Rattle.std.proofs.lemmas.List.Sorted.{IsPermutation-reverse}
use Rattle.std.proofs.lemmas.Map.Keys.{IsDistinct-IsPermutation}
use Rattle.std.proofs.lemmas.Map.Made.{AllPairs-from_IsDistinct}
use Rattle.vt_plan.specs.Shape.{Shape}
use Rattle.vt_plan.specs.Pages.{levels_of, pages_of, index_of, IsWithinLimits, level_of, name_at, parent_name, parent_of}
use Rattle.vt_plan.proofs.Lines.{parent_is, parent_none}
use Rattle.vt_plan.proofs.Parents.{parent_facts, level_below}
use Rattle.vt_plan.proofs.Steps.{step_root, step_below, step_up}
use Rattle.vt_plan.specs.FeedbackTypes.Wanted.{Wanted}
use Rattle.vt_plan.specs.Wants.{pages_wanted}
use Rattle.vt_plan.specs.declared.batches.Planned.{Planned}
use Rattle.vt_plan.specs.Lookups.{next_finer_page}
use Rattle.vt_plan.specs.Orders.{line_pages}
use Rattle.vt_plan.specs.PageLists.{is_in}
use Rattle.vt_plan.specs.Views.{RecencyView, IsRecencyTable, is_pinned, is_loose, is_held, frame_of, free_frames}
use Rattle.vt_plan.specs.Missing.{has_frame, missing_from}
use Rattle.vt_evict.specs.Batches.{IsLawfulBatch, IsLawfulEntry}
use Rattle.vt_plan.specs.Plans.{missing_pages, candidates, planned_at, planned_count, plan_of}
use Rattle.vt_plan.specs.Entries.{freed_at, taken_at}
use Rattle.vt_evict.proofs.ListLemmas.{nat_eq_swap, is_in-reverse, distinct-filter, each_once_distinct, by_recursion-each_once, range_once, and_true, and_false}
use Rattle.vt_plan.proofs.ListLemmas.{is_in-filter}
use Rattle.vt_evict.proofs.PlanLemmas.{at_free, at_victim}
use Rattle.vt_evict.proofs.FreeLemmas.{is_in-range}
use Rattle.vt_evict.proofs.SettleLemmas.{self_eq, held_from, first_of_and, positive}

-- an unmapped page
record IsGap (s : Shape) (m : ℕ → Bool) (p : ℕ) : Type 0 where
  pub inside : p < pages_of s
  pub unmapped : m p ≡ false

step_from : (s : Shape) (m : ℕ → Bool) (p q : ℕ) → IsWithinLimits s → p < pages_of s → parent_of s p ≡ Some q
    → m p ≡ false
    → (b : Bool) → m q ≡ b → (m q ≡ false → IsGap s m (next_finer_page s m q)) → IsGap s m (next_finer_page s m p)
step_from s m p q limits inside parent low true high rest =
    subst (IsGap s m) (step_below s m p q limits inside parent low high) (record { inside = inside; unmapped = low })
step_from s m p q limits inside parent low false high rest = subst (IsGap s m) (step_up s m p q limits inside parent low high) (rest high)

-- the next finer page of an unmapped page is unmapped
step_gap : (s : Shape) (m : ℕ → Bool) (up p : ℕ) → IsWithinLimits s → level_of s p + up + 1 ≡ levels_of s
    → p < pages_of s → m p ≡ false → IsGap s m (next_finer_page s m p)
step_gap s m zero p limits level inside low =
    subst (IsGap s m) (step_root s m p limits inside (parent_none s p (omega arith))) (record { inside = inside; unmapped = low })
step_gap s m (suc up) p limits level inside low =
    let q : ℕ = index_of s (parent_name (name_at s p)) in
    let parent : parent_of s p ≡ Some (index_of s (parent_name (name_at s p))) = parent_is s p (omega arith) in
    let h = parent_facts s p q limits inside parent in
    step_from s m p q limits inside parent low (m q) refl (λ high. step_gap s m up q limits (omega (arith, h.level)) h.inside high)

steps_gap : (s : Shape) (m : ℕ → Bool) (ps : List ℕ) → IsWithinLimits s → AllByRecursion (λ p. p < pages_of s) ps
    → AllByRecursion (IsGap s m) (map (next_finer_page s m) (filter (λ p. not (m p)) ps))
steps_gap s m [] limits h = tt
steps_gap s m (p ∷ ps) limits h = test (m p) refl (steps_gap s m ps limits h.1) where
  test : (b : Bool) → m p ≡ b → AllByRecursion (IsGap s m) (map (next_finer_page s m) (filter (λ p. not (m p)) ps))
      → AllByRecursion (IsGap s m) (map (next_finer_page s m) (cond (not b) (p ∷ filter (λ p. not (m p)) ps) (filter (λ p. not (m p)) ps)))
  test true e rest = rest
  test false e rest = let below = level_below s p limits h.0 in (step_gap s m (levels_of s - 1 - level_of s p) p limits (omega arith) h.0 e, rest)

abbrev AreInside : RecencyView → List Wanted → Type 0
AreInside v wants = All (λ w. w.page < pages_of v.shape) wants

missing_gaps : (v : RecencyView) (wants : List Wanted) → IsRecencyTable v → AreInside v wants
    → AllByRecursion (IsGap v.shape (has_frame v.entries)) (missing_pages v wants)
unfolding missing_pages missing_from
missing_gaps v wants h inside =
    let pages : AllByRecursion (λ p. p < pages_of v.shape) (pages_wanted wants) =
    recursion_from_All (λ p. p < pages_of v.shape) (pages_wanted wants) (All-map (λ p. p < pages_of v.shape) (λ w. w.page) wants inside) in
    by_recursion-each_once (IsGap v.shape (has_frame v.entries)) _ (steps_gap v.shape (has_frame v.entries) (pages_wanted wants) h.limits pages)

missing_once : (v : RecencyView) (wants : List Wanted) → IsDistinct nat_eq (missing_pages v wants)
unfolding missing_pages missing_from
missing_once v wants = each_once_distinct _

-- a page that may be mapped
record IsRoom (v : RecencyView) (p : ℕ) : Type 0 where
  pub unpinned : p + v.pinned < pages_of v.shape
  pub unmapped : slice_index v.entries p ≡ 0

gap_room : (v : RecencyView) (p : ℕ) → IsRecencyTable v → IsGap v.shape (has_frame v.entries) p → IsRoom v p
gap_room v p h gap = record {
  unpinned = elim (cases_lt (p + v.pinned) (pages_of v.shape)) [
    | inl below ↦ below
    | inr past ↦ absurd (false≢true (sym gap.unmapped ∙ h.pinned_mapped p gap.inside (le_true (pages_of v.shape) (p + v.pinned) past)))
  ];
  unmapped = zero_of (slice_index v.entries p) gap.unmapped;
} where
  le_true : (a b : ℕ) → a ≤ b → nat_le a b ≡ true
  le_true a b h = grind (arith, nat_tests)

  zero_of : (n : ℕ) → nat_lt 0 n ≡ false → n ≡ 0
  zero_of n h = grind (arith, nat_tests)

missing_room : (v : RecencyView) (wants : List Wanted) (j : ℕ) → IsRecencyTable v → AreInside v wants
    → j < length (missing_pages v wants) → IsRoom v (slice_index (missing_pages v wants) j)
missing_room v wants j h inside below =
    gap_room v (slice_index (missing_pages v wants) j) h
    (All-get_or (IsGap v.shape (has_frame v.entries)) (missing_pages v wants) j 0 below
    (All-from_recursion (IsGap v.shape (has_frame v.entries)) (missing_pages v wants) (missing_gaps v wants h inside)))

here : (xs : List ℕ) (k : ℕ) → k < length xs → is_in xs (slice_index xs k) ≡ true
here xs k below = list_any_at (nat_eq (slice_index xs k)) xs k 0 below (self_eq (slice_index xs k))

-- a page that may be given up
record IsSpare (v : RecencyView) (p : ℕ) : Type 0 where
  pub unpinned : p + v.pinned < pages_of v.shape
  pub mapped : has_frame v.entries p ≡ true
  pub some : 0 < slice_index v.entries p

spare : (v : RecencyView) (p : ℕ) → is_loose v p ≡ true → IsSpare v p
spare v p loose =
    let m : has_frame v.entries p ≡ true = first_of_and (has_frame v.entries p) (not (is_pinned v p)) loose in
    record {
      unpinned = second (has_frame v.entries p) (pages_of v.shape) (p + v.pinned) loose;
      mapped = m;
      some = positive (slice_index v.entries p) m;
    } where
      second : (b : Bool) (m n : ℕ) → (b && not (nat_le m n)) ≡ true → n < m
      second true m n h = grind (arith, nat_tests)
      second false m n h = absurd (false≢true h)

candidate_spare : (v : RecencyView) (wants : List Wanted) (k : ℕ) → IsRecencyTable v → k < length (candidates v wants)
    → IsSpare v (slice_index (candidates v wants) k)
unfolding candidates
candidate_spare v wants k h below =
    let p : ℕ = slice_index (candidates v wants) k in
    let t : ℕ → Bool = λ p. not (is_in (line_pages v.shape (pages_wanted wants)) p) in
    spare v p (sym (h.in_order p) ∙ sym (is_in-reverse v.order p)
    ∙ first_of_and (is_in (reverse v.order) p) (t p) (sym (is_in-filter t (reverse v.order) p) ∙ here (candidates v wants) k below))

candidates_once : (v : RecencyView) (wants : List Wanted) → IsRecencyTable v → IsDistinct nat_eq (candidates v wants)
unfolding candidates
candidates_once v wants h =
    distinct-filter (λ p. not (is_in (line_pages v.shape (pages_wanted wants)) p)) (reverse v.order)
    (IsDistinct-IsPermutation nat_eq nat_eq_swap v.order (reverse v.order) (IsPermutation-reverse v.order) h.once)

-- a frame that no page has
record IsLeft (v : RecencyView) (f : ℕ) : Type 0 where
  pub inside : f < v.frames
  pub free : is_held v.entries f ≡ false

free_left : (v : RecencyView) (k : ℕ) → k < length (free_frames v) → IsLeft v (slice_index (free_frames v) k)
unfolding free_frames
free_left v k below =
    let f : ℕ = slice_index (free_frames v) k in
    let both = parts v.frames f (is_held v.entries f)
    (sym (is_in-filter (λ f. not (is_held v.entries f)) (range_with_len 0 v.frames) f
    ∙ ap (λ (b : Bool). b && not (is_held v.entries f)) (is_in-range 0 v.frames f))
    ∙ here (free_frames v) k below) in
    record { inside = both.0; free = both.1 } where
      parts : (n f : ℕ) (b : Bool) → ((nat_le 0 f && nat_lt f (0 + n)) && not b) ≡ true → (f < n) × (b ≡ false)
      parts n f true h = absurd (false≢true (sym (and_false (nat_le 0 f && nat_lt f (0 + n))) ∙ h))
      parts n f false h = (below_of n f (sym (and_true (nat_le 0 f && nat_lt f (0 + n))) ∙ h), refl) where
        below_of : (n f : ℕ) → (nat_le 0 f && nat_lt f (0 + n)) ≡ true → f < n
        below_of n f h = grind (arith, nat_tests)

free_once : (v : RecencyView) → IsDistinct nat_eq (free_frames v)
unfolding free_frames
free_once v = distinct-filter (λ f. not (is_held v.entries f)) (range_with_len 0 v.frames) (range_once 0 v.frames)

-- two places of a list without repeats
distinct_at : (xs : List ℕ) (i j : ℕ) → IsDistinct nat_eq xs → i < j → j < length xs
    → slice_index xs i ≢ slice_index xs j
distinct_at xs i j once less below = AllPairs-from_IsDistinct Decides-eqb xs once i j 0 less below

abbrev entry : RecencyView → List Wanted → ℕ → Planned
entry v wants j = planned_at v.entries (missing_pages v wants) (free_frames v) (candidates v wants) j

freed_lawful : (v : RecencyView) (wants : List Wanted) (j : ℕ) → IsRecencyTable v → AreInside v wants
    → j < length (missing_pages v wants) → j < length (free_frames v)
    → IsLawfulEntry v (freed_at (missing_pages v wants) (free_frames v) j)
freed_lawful v wants j h inside some below =
    let room = missing_room v wants j h inside some in
    let left = free_left v j below in
    record {
      unpinned = room.unpinned;
      unmapped = room.unmapped;
      frame_inside = left.inside;
      place = λ p e. false≢true (sym left.free ∙ held_from v.entries (slice_index (free_frames v) j) p e);
    }

taken_lawful : (v : RecencyView) (wants : List Wanted) (k : ℕ) → IsRecencyTable v → AreInside v wants
    → length (free_frames v) + k < length (missing_pages v wants)
    → k < length (candidates v wants) → IsLawfulEntry v (taken_at v.entries (missing_pages v wants) (candidates v wants) (length (free_frames v)) k)
taken_lawful v wants k h inside some below =
    let room = missing_room v wants (length (free_frames v) + k) h inside some in
    let p : ℕ = slice_index (candidates v wants) k in
    let s = candidate_spare v wants k h below in
    let positive' : 0 < slice_index v.entries (slice_index (candidates v wants) k) = s.some in
    record {
      unpinned = room.unpinned;
      unmapped = room.unmapped;
      frame_inside = omega (arith, h.frames_inside (slice_index (candidates v wants) k));
      place = record { unpinned = s.unpinned; held = omega arith };
    }

entry_lawful : (v : RecencyView) (wants : List Wanted) (j : ℕ) → IsRecencyTable v → AreInside v wants
    → j < length (missing_pages v wants)
    → j < length (free_frames v) + length (candidates v wants) → IsLawfulEntry v (entry v wants j)
entry_lawful v wants j h inside some enough = elim (cases_lt j (length (free_frames v))) [
  | inl below ↦ subst (IsLawfulEntry v) (at_free v.entries (missing_pages v wants) (free_frames v) (candidates v wants) j below)
      (freed_lawful v wants j h inside some below)
  | inr past ↦
      let back : length (free_frames v) + (j - length (free_frames v)) ≡ j = omega arith in
      let inner : j - length (free_frames v) < length (candidates v wants) = omega arith in
      let there : length (free_frames v) + (j - length (free_frames v)) < length (missing_pages v wants) = omega arith in
      subst (λ (k : ℕ). IsLawfulEntry v (entry v wants k)) back
      (subst (IsLawfulEntry v) (at_victim v.entries (missing_pages v wants) (free_frames v) (candidates v wants) (j - length (free_frames v)) inner)
      (taken_lawful v wants (j - length (free_frames v)) h inside there inner))
]

abbrev frames_given : RecencyView → List Wanted → List ℕ
frames_given v wants = free_frames v ++ map (frame_of v.entries) (candidates v wants)

-- the frame of an entry with a victim
taken_frame : (v : RecencyView) (wants : List Wanted) (j : ℕ) → length (free_frames v) ≤ j
    → j < length (free_frames v) + length (candidates v wants)
    → slice_index (frames_given v wants) j ≡ slice_index v.entries (slice_index (candidates v wants) (j - length (free_frames v))) - 1
taken_frame v wants j past enough =
    let k : ℕ = j - length (free_frames v) in
    let back : j ≡ length (free_frames v) + (j - length (free_frames v)) = omega arith in
    ap (slice_index (frames_given v wants)) back
    ∙ get_or-append-add (free_frames v) (map (frame_of v.entries) (candidates v wants)) (j - length (free_frames v)) 0
    ∙ get_or-map (frame_of v.entries) (candidates v wants) (j - length (free_frames v)) 0 0 (omega arith)

freed_frame : (v : RecencyView) (wants : List Wanted) (j : ℕ) → j < length (free_frames v)
    → slice_index (frames_given v wants) j ≡ slice_index (free_frames v) j
freed_frame v wants j below = get_or_append_left (free_frames v) (map (frame_of v.entries) (candidates v wants)) 0 j below

-- no frame is in two entries
frames_apart : (v : RecencyView) (wants : List Wanted) (i j : ℕ) → IsRecencyTable v → i < j
    → j < length (free_frames v) + length (candidates v wants)
    → slice_index (frames_given v wants) i ≢ slice_index (frames_given v wants) j
frames_apart v wants i j h less enough same = elim (cases_lt j (length (free_frames v))) [
  | inl below ↦ distinct_at (free_frames v) i j (free_once v) less below (sym (freed_frame v wants i (omega arith)) ∙ same ∙ freed_frame v wants j below)
  | inr past ↦
      let k : ℕ = j - length (free_frames v) in
      let inner : j - length (free_frames v) < length (candidates v wants) = omega arith in
      let spare = candidate_spare v wants (j - length (free_frames v)) h inner in
      let held = taken_frame v wants j past enough in
      elim (cases_lt i (length (free_frames v))) [
        | inl first ↦
            let left = free_left v i first in
            let one : slice_index (free_frames v) i ≡ slice_index v.entries (slice_index (candidates v wants) (j - length (free_frames v))) - 1 =
            sym (freed_frame v wants i first) ∙ same ∙ held in
            false≢true (sym left.free ∙ held_from v.entries (slice_index (free_frames v) i) (slice_index (candidates v wants) (j - length (free_frames v)))
            (omega (arith, one, spare.some)))
        | inr second ↦
            let less' : i - length (free_frames v) < j - length (free_frames v) = omega arith in
            let other = candidate_spare v wants (i - length (free_frames v)) h (omega arith) in
            let equal : slice_index v.entries (slice_index (candidates v wants) (i - length (free_frames v))) - 1
            ≡ slice_index v.entries (slice_index (candidates v wants) (j - length (free_frames v))) - 1 =
            sym (taken_frame v wants i second (omega arith)) ∙ same ∙ held in
            distinct_at (candidates v wants) (i - length (free_frames v)) (j - length (free_frames v)) (candidates_once v wants h) less' inner
            (h.apart _ _ other.mapped (omega (arith, equal, spare.some, other.some)))
      ]
]

pub plan_lawful : (v : RecencyView) (wants : List Wanted) (q : ℕ) → IsRecencyTable v
    → All (λ w. w.page < pages_of v.shape) wants → IsLawfulBatch v (plan_of v wants q)
unfolding plan_of
plan_lawful v wants q h inside =
    let n : ℕ = planned_count q (missing_pages v wants) (free_frames v) (candidates v wants) in
    let long : length (map (entry v wants) (range_with_len 0 n)) ≡ n = length-map-range_with_len (entry v wants) 0 n in
    let zero : Planned = record { page = 0; frame = 0; victim = None } in
    record {
      each = All-from_get_or (IsLawfulEntry v) (map (entry v wants) (range_with_len 0 n)) zero (λ i below.
          subst (IsLawfulEntry v) (sym (get_or-map-range_with_len (entry v wants) 0 n i i zero (omega (arith, long)) (omega arith)))
          (entry_lawful v wants i h inside (omega (arith, long)) (omega (arith, long))));
      apart = λ i j d less below.
          let one = get_or-map-range_with_len (entry v wants) 0 n i i d (omega (arith, long)) (omega arith) in
          let two = get_or-map-range_with_len (entry v wants) 0 n j j d (omega (arith, long)) (omega arith) in (
            λ same. distinct_at (missing_pages v wants) i j (missing_once v wants) less (omega (arith, long))
                (sym (ap (λ (e : Planned). e.page) one) ∙ same ∙ ap (λ (e : Planned). e.page) two),
            λ same. frames_apart v wants i j h less (omega (arith, long))
                (sym (ap (λ (e : Planned). e.frame) one) ∙ same ∙ ap (λ (e : Planned). e.frame) two),
          );
    }

pub plan_count : (v : RecencyView) (wants : List Wanted) (q : ℕ) → length (plan_of v wants q) ≤ q
unfolding plan_of
plan_count v wants q =
    omega (
      arith,
      length-map-range_with_len (planned_at v.entries (missing_pages v wants) (free_frames v) (candidates v wants)) 0
          (planned_count q (missing_pages v wants) (free_frames v) (candidates v wants)),
    )

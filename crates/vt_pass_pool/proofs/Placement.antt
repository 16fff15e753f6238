-- Rows that are put into their places, sampler after sampler.
use Rattle.std.proofs.Common.{◌≡◌, ◌≢◌, ℕ, zero, suc, ◌+◌, ◌<◌, ◌≤◌, inl, inr, ⊎_elim, ◌⊎◌, List, [], ◌∷◌, ◌++◌, length, get_or, take, Some, refl, sym, ap, ◌∙◌, subst, arith}
use Rattle.std.specs.Prelude.{slice_get, slice_set, slice_index, All, Contains, IsPermutation}
use Rattle.std.specs.List.{concat, range_with_len}
use Rattle.std.proofs.lemmas.Bool.{cases_eq}
use Rattle.std.proofs.lemmas.List.{append-nil, append_assoc, length-set, get_or-set_same, get_or-set_other, take_more, map-append}
use Rattle.std.proofs.lemmas.List.Elements.{All-pop, Contains-append_left, Contains-append_right, Contains-append_cases}
use Rattle.std.proofs.lemmas.List.FromFn.{length-range_with_len, get_or-range_with_len}
use Rattle.std.proofs.lemmas.List.Sorted.{Contains-permutation}
use Rattle.std.proofs.lemmas.List.Sums.{sum_by_push, sum_by-take-le}
use Rattle.std.proofs.lemmas.Option.{none-some, same_Some}
use Rattle.vt_pass_rows.specs.SchedulesTypes.bag.RowJob.{RowJob}
use Rattle.vt_pass_rows.specs.SharedRows.{rows_of}
use Rattle.vt_pass_rows.specs.declared.sampler.PassSampler.{PassSampler}
use Rattle.vt_pass_pool.specs.Placing.{IsPlacedAt, ArePlaced, all_kept, rows_kept, counted_by, bytes_of}
use Rattle.vt_pass_pool.proofs.Listed.{contained_of}

-- what holds of the rows of a list holds of its last one and of the others
pub popped_all : (P : RowJob → Type 0) (ls rest : List RowJob) (x : RowJob) → ls ≡ rest ++ x ∷ [] → All P ls → All P rest × P x
popped_all P ls rest x is all = All-pop P ls rest (Some x) is all

pub placed_none : (old : List RowJob) → ArePlaced [] old old
placed_none old = record { number = refl; each = λ y d inside. inl (refl, λ j has same. (let low = has.1 in omega (arith, low))) }

-- one row more, which was before the others
pub placed_one : (rows old mid : List RowJob) (job : RowJob) → ArePlaced rows old mid → job.row < length old
    → ArePlaced (job ∷ rows) old (slice_set mid job.row job)
placed_one rows old mid job h inside = record {
  number = length-set mid job.row job ∙ h.number;
  each = λ y d below. ⊎_elim
      (λ (same : y ≡ job.row).
      let here : get_or (slice_set mid job.row job) y d ≡ job = ap (λ n. get_or (slice_set mid job.row job) n d) same
      ∙ get_or-set_same mid job.row job d (let n = h.number in omega (arith, n, inside)) in
      subst (IsPlacedAt (job ∷ rows) y (get_or old y d)) (sym here) (inr ((0, omega arith, refl), sym same)))
      (λ (other : y ≢ job.row).
      subst (IsPlacedAt (job ∷ rows) y (get_or old y d)) (sym (get_or-set_other mid job.row y job d other))
      (longer y other (get_or old y d) (get_or mid y d) (h.each y d below)))
      (cases_eq y job.row);
} where
  longer : (y : ℕ) → y ≢ job.row → (a b : RowJob) → IsPlacedAt rows y a b → IsPlacedAt (job ∷ rows) y a b
  longer y other a b (inl same) = inl (
    same.0,
    λ j has. ⊎_elim
        (λ (first : Contains (job ∷ []) j). λ e. other (sym e ∙ ap (λ (x : RowJob). x.row) (sym (only j first))))
        (λ (later : Contains rows j). same.1 j later)
        (Contains-append_cases (job ∷ []) rows j has),
  ) where
    only : (j : RowJob) → Contains (job ∷ []) j → job ≡ j
    only j (k, low, is) = let z : k ≡ 0 = omega (arith, low) in ap (λ n. get_or (job ∷ []) n j) (sym z) ∙ is
  longer y other a b (inr own) = inr (Contains-append_right (job ∷ []) rows b own.0, own.1)

-- the rows of one sampler after those of others
placed_then : (first second old mid new : List RowJob) → ArePlaced first old mid → ArePlaced second mid new → ArePlaced (first ++ second) old new
placed_then first second old mid new f s = record {
  number = s.number ∙ f.number;
  each = λ y d inside. step y (get_or old y d) (get_or mid y d) (get_or new y d) (f.each y d inside)
      (s.each y d (let n = f.number in omega (arith, n, inside)));
} where
  step : (y : ℕ) (a b c : RowJob) → IsPlacedAt first y a b → IsPlacedAt second y b c → IsPlacedAt (first ++ second) y a c
  step y a b c before (inr own) = inr (Contains-append_right first second c own.0, own.1)
  step y a b c (inl was) (inl same) = inl (same.0 ∙ was.0, λ j has. ⊎_elim (was.1 j) (same.1 j) (Contains-append_cases first second j has))
  step y a b c (inr own) (inl same) =
      subst (IsPlacedAt (first ++ second) y a) (sym same.0) (inr (Contains-append_left first second b own.0, own.1))

joined_push : (xss : List (List ℕ)) (xs : List ℕ) → concat (xss ++ xs ∷ []) ≡ concat xss ++ xs
joined_push [] xs = append-nil xs
joined_push (ys ∷ xss) xs = ap (λ l. ys ++ l) (joined_push xss xs) ∙ sym (append_assoc ys (concat xss) xs)

-- the bytes of one row more
pub bytes_push : (jobs : List RowJob) (job : RowJob) → concat (bytes_of (jobs ++ job ∷ [])) ≡ concat (bytes_of jobs) ++ job.samples.elements
bytes_push jobs job = ap concat (map-append (λ (j : RowJob). j.samples.elements) jobs (job ∷ []))
    ∙ joined_push (bytes_of jobs) job.samples.elements

module _ {T S H R W B O M : Type 0} where
  -- the rows of one sampler more
  kept_more : (samplers : List (PassSampler T S H R W B O M)) (i : ℕ) (a : PassSampler T S H R W B O M) → slice_get samplers i ≡ Some a
      → all_kept (take (i + 1) samplers) ≡ all_kept (take i samplers) ++ a.kept.elements
  kept_more samplers i a is = (let e : i + 1 ≡ suc i = omega arith in ap (λ (n : ℕ). all_kept (take n samplers)) e) ∙ more samplers i is where
    more : (l : List (PassSampler T S H R W B O M)) (n : ℕ) → slice_get l n ≡ Some a → all_kept (take (suc n) l) ≡ all_kept (take n l) ++ a.kept.elements
    more [] n at = absurd (none-some a at)
    more (z ∷ l) zero at = append-nil z.kept.elements ∙ ap (λ (w : PassSampler T S H R W B O M). w.kept.elements) (same_Some z a at)
    more (z ∷ l) (suc n) at = ap (λ w. z.kept.elements ++ w) (more l n at) ∙ sym (append_assoc z.kept.elements (all_kept (take n l)) a.kept.elements)

  pub placed_more : (samplers : List (PassSampler T S H R W B O M)) (i : ℕ) (a : PassSampler T S H R W B O M) (old mid new : List RowJob)
      → slice_get samplers i ≡ Some a → ArePlaced (all_kept (take i samplers)) old mid → ArePlaced a.kept.elements mid new
      → ArePlaced (all_kept (take (i + 1) samplers)) old new
  placed_more samplers i a old mid new is f s =
      subst (λ (l : List RowJob). ArePlaced l old new) (sym (kept_more samplers i a is))
      (placed_then (all_kept (take i samplers)) a.kept.elements old mid new f s)

  -- the counts of one sampler more
  pub counted_more : (samplers : List (PassSampler T S H R W B O M)) (i p : ℕ) (d : PassSampler T S H R W B O M) → i < length samplers
      → counted_by (take (i + 1) samplers) p ≡ counted_by (take i samplers) p + slice_index (get_or samplers i d).counts.items p
  counted_more samplers i p d inside = ap (λ l. counted_by l p) (take_more samplers i d inside)
      ∙ sum_by_push (λ (a : PassSampler T S H R W B O M). slice_index a.counts.items p) (take i samplers) (get_or samplers i d)

  pub counted_below : (samplers : List (PassSampler T S H R W B O M)) (i p : ℕ) → counted_by (take i samplers) p ≤ counted_by samplers p
  counted_below samplers i p = sum_by-take-le (λ (a : PassSampler T S H R W B O M). slice_index a.counts.items p) samplers i

  -- the numbers of all rows that samplers keep
  pub numbers_are : (samplers : List (PassSampler T S H R W B O M)) → rows_of (all_kept samplers) ≡ concat (rows_kept samplers)
  numbers_are [] = refl
  numbers_are (a ∷ others) = map-append (λ (j : RowJob). j.row) a.kept.elements (all_kept others) ∙ ap (λ l. rows_of a.kept.elements ++ l) (numbers_are others)

  -- a row that is kept is one of a sampler
  pub kept_by : (samplers : List (PassSampler T S H R W B O M)) (job : RowJob) → Contains (all_kept samplers) job
      → (n : ℕ) × (a : PassSampler T S H R W B O M) × (slice_get samplers n ≡ Some a) × Contains a.kept.elements job
  kept_by [] job (k, inside, is) = absurd (omega (arith, inside))
  kept_by (a ∷ others) job has = by_cases (kept_by others job) (Contains-append_cases a.kept.elements (all_kept others) job has) where
    by_cases : (Contains (all_kept others) job
        → (n : ℕ) × (b : PassSampler T S H R W B O M) × (slice_get others n ≡ Some b) × Contains b.kept.elements job)
        → Contains a.kept.elements job ⊎ Contains (all_kept others) job
        → (n : ℕ) × (b : PassSampler T S H R W B O M) × (slice_get (a ∷ others) n ≡ Some b) × Contains b.kept.elements job
    by_cases rest (inl here) = (0, a, refl, here)
    by_cases rest (inr later) = let x = rest later in (suc x.0, x.1, x.2, x.3)

-- where the rows are each row once, each place has its own
pub placed_own : (height : ℕ) (jobs old new : List RowJob) → length old ≡ height → IsPermutation (range_with_len 0 height) (rows_of jobs)
    → ArePlaced jobs old new → (y : ℕ) (d : RowJob) → y < height → Contains jobs (get_or new y d) × ((get_or new y d).row ≡ y)
placed_own height jobs old new number once placed y d inside =
    let there : Contains (range_with_len 0 height) y =
    (y, (let n = length-range_with_len 0 height in omega (arith, n, inside)), (let e = get_or-range_with_len 0 height y y inside in omega (arith, e))) in
    let found = contained_of (λ (j : RowJob). j.row) jobs y (Contains-permutation (range_with_len 0 height) (rows_of jobs) y once there) in
    by_cases found (placed.each y d (omega (arith, number, inside))) where
      by_cases : ((x : RowJob) × Contains jobs x × (x.row ≡ y)) → IsPlacedAt jobs y (get_or old y d) (get_or new y d)
          → Contains jobs (get_or new y d) × ((get_or new y d).row ≡ y)
      by_cases found (inl other) = absurd (other.1 found.0 found.1 found.2)
      by_cases found (inr own) = own

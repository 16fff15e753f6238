-- A plan is made of its parts.
use Rattle.std.proofs.Common.{◌≡◌, ℕ, zero, suc, ◌+◌, ◌-◌, ◌<◌, ◌≤◌, Bool, true, false, cond, nat_lt, min, None, Some, inl, inr, List, [], ◌∷◌, ◌++◌, map, length, slice_index, slice_get, refl, sym, ap, ◌∙◌, append-nil, append_assoc, add-one, arith}
use Rattle.std.specs.List.{range_with_len}
use Rattle.std.proofs.lemmas.Bool.{cases_lt}
use Rattle.std.proofs.lemmas.Bool.Decides.{nat_tests}
use Rattle.std.proofs.lemmas.List.{get_or_append_left, get_or-append-add, get_or-map}
use Rattle.std.proofs.lemmas.Option.{slice_get-get_or}
use Rattle.std.proofs.lemmas.List.FromFn.{map-range_with_len_more}
use Rattle.vt_plan.specs.FeedbackTypes.Wanted.{Wanted}
use Rattle.vt_plan.specs.declared.batches.Planned.{Planned}
use Rattle.vt_plan.specs.Views.{RecencyView, frame_of}
use Rattle.vt_plan.specs.Plans.{candidates, planned_at, planned_count}
use Rattle.vt_evict.specs.Kept.{HasTakenFrames}
use Rattle.vt_plan.specs.Entries.{freed_at, taken_at}

map_range_same : {X : Type 0} (f g : ℕ → X) (n : ℕ) → ((j : ℕ) → j < n → f j ≡ g j) → map f (range_with_len 0 n) ≡ map g (range_with_len 0 n)
map_range_same f g zero h = refl
map_range_same f g (suc n) h =
    let one = map-range_with_len_more f 0 n n (omega arith) in
    let two = map-range_with_len_more g 0 n n (omega arith) in
    rw add-one at one
    ∙ ap (λ (l : List _). l ++ f n ∷ []) (map_range_same f g n (λ j below. h j (omega arith)))
    ∙ ap (λ x. map g (range_with_len 0 n) ++ x ∷ []) (h n (omega arith))
    ∙ sym (rw add-one at two)

map_range_two : {X : Type 0} (f : ℕ → X) (a m : ℕ) → map f (range_with_len 0 (a + m)) ≡ map f (range_with_len 0 a) ++ map (λ j. f (a + j)) (range_with_len 0 m)
map_range_two f a zero = let e : a + 0 ≡ a = omega arith in ap (λ (n : ℕ). map f (range_with_len 0 n)) e ∙ sym (append-nil (map f (range_with_len 0 a)))
map_range_two f a (suc m) =
    let e : a + suc m ≡ a + m + 1 = omega arith in
    let two = map-range_with_len_more (λ j. f (a + j)) 0 m m (omega arith) in
    ap (λ (n : ℕ). map f (range_with_len 0 n)) e
    ∙ map-range_with_len_more f 0 (a + m) (a + m) (omega arith)
    ∙ ap (λ (l : List _). l ++ f (a + m) ∷ []) (map_range_two f a m)
    ∙ append_assoc (map f (range_with_len 0 a)) _ _
    ∙ ap (λ (l : List _). map f (range_with_len 0 a) ++ l) (sym (rw add-one at two))

module _ (entries missing free victims : List ℕ) where
  pub at_free : (j : ℕ) → j < length free → freed_at missing free j ≡ planned_at entries missing free victims j
  at_free j below =
      let frame : slice_index (free ++ map (frame_of entries) victims) j ≡ slice_index free j = get_or_append_left free
      (map (frame_of entries) victims) 0 j below in
      let test : nat_lt j (length free) ≡ true = grind (arith, nat_tests) in
      let none : cond (nat_lt j (length free)) None (slice_get victims (j - length free)) ≡ None = ap
      (λ (b : Bool). cond b None (slice_get victims (j - length free))) test in
      λ i. record { page = slice_index missing j; frame = sym frame i; victim = sym none i }

  pub at_victim : (j : ℕ) → j < length victims → taken_at entries missing victims (length free) j ≡ planned_at entries missing free victims (length free + j)
  at_victim j below =
      let frame : slice_index (free ++ map (frame_of entries) victims) (length free + j) ≡ slice_index entries (slice_index victims j) - 1 =
      get_or-append-add free (map (frame_of entries) victims) j 0 ∙ get_or-map (frame_of entries) victims j 0 0 below in
      let test : nat_lt (length free + j) (length free) ≡ false = grind (arith, nat_tests) in
      let back : length free + j - length free ≡ j = omega arith in
      let some : cond (nat_lt (length free + j) (length free)) None (slice_get victims (length free + j - length free)) ≡ Some (slice_index victims j) =
      ap (λ (b : Bool). cond b None (slice_get victims (length free + j - length free))) test
      ∙ ap (slice_get victims) back ∙ slice_get-get_or victims j 0 below in
      λ i. record { page = slice_index missing (length free + j); frame = sym frame i; victim = sym some i }

  pub all_free : (q most : ℕ) (batch : List Planned) → most ≡ min (length missing) q
      → batch ≡ map (freed_at missing free) (range_with_len 0 (min most (length free)))
      → most ≤ min most (length free) → batch ≡ map (planned_at entries missing free victims) (range_with_len 0 (planned_count q missing free victims))
  all_free q most batch is put full =
      let n : min most (length free) ≡ planned_count q missing free victims = omega arith in
      put ∙ map_range_same _ _ (min most (length free)) (λ j below. at_free j (omega arith))
      ∙ ap (λ (n : ℕ). map (planned_at entries missing free victims) (range_with_len 0 n)) n

  pub some_taken : (q most : ℕ) (front batch : List Planned) → most ≡ min (length missing) q
      → front ≡ map (freed_at missing free) (range_with_len 0 (min most (length free)))
      → length front ≡ min most (length free) → min most (length free) < most
      → batch ≡ front ++ map (taken_at entries missing victims (length front)) (range_with_len 0 (min (most - length front) (length victims)))
      → batch ≡ map (planned_at entries missing free victims) (range_with_len 0 (planned_count q missing free victims))
  some_taken q most front batch is put count few more =
      let all : length front ≡ length free = omega arith in
      let all' : min most (length free) ≡ length free = omega arith in
      let n : length free + min (most - length free) (length victims) ≡ planned_count q missing free victims = omega arith in
      more
      ∙ ap (λ (n : ℕ). front ++ map (taken_at entries missing victims n) (range_with_len 0 (min (most - n) (length victims)))) all
      ∙ ap (λ (l : List Planned). l ++ map (taken_at entries missing victims (length free)) (range_with_len 0 (min (most - length free) (length victims))))
      (put ∙ ap (λ (n : ℕ). map (freed_at missing free) (range_with_len 0 n)) all' ∙ map_range_same _ _ (length free) at_free)
      ∙ ap (λ (l : List Planned). map (planned_at entries missing free victims) (range_with_len 0 (length free)) ++ l)
      (map_range_same _ _ (min (most - length free) (length victims)) (λ j below. at_victim j (omega arith)))
      ∙ sym (map_range_two (planned_at entries missing free victims) (length free) (min (most - length free) (length victims)))
      ∙ ap (λ (n : ℕ). map (planned_at entries missing free victims) (range_with_len 0 n)) n

  pub any_taken : (q most : ℕ) (front batch : List Planned) → most ≡ min (length missing) q
      → front ≡ map (freed_at missing free) (range_with_len 0 (min most (length free)))
      → length front ≡ min most (length free)
      → batch ≡ front ++ map (taken_at entries missing victims (length front)) (range_with_len 0 (min (most - length front) (length victims)))
      → batch ≡ map (planned_at entries missing free victims) (range_with_len 0 (planned_count q missing free victims))
  any_taken q most front batch is put count more = elim (cases_lt (min most (length free)) most) [
    | inl few ↦ some_taken q most front batch is put count few more
    | inr full ↦
        let none : min (most - length front) (length victims) ≡ 0 = omega arith in
        all_free q most batch is
        (more ∙ ap (λ (n : ℕ). front ++ map (taken_at entries missing victims (length front)) (range_with_len 0 n)) none ∙ append-nil front ∙ put) full
  ]

-- a batch that has so many entries takes no more
pub none_taken : (v : RecencyView) (wants : List Wanted) (missing : List ℕ) (most : ℕ) (batch : List Planned) → most ≤ length batch
    → HasTakenFrames v wants missing most batch batch
none_taken v wants missing most batch full =
    let none : min (most - length batch) (length (candidates v wants)) ≡ 0 = omega arith in
    sym (ap (λ (n : ℕ). batch ++ map (taken_at v.entries missing (candidates v wants) (length batch)) (range_with_len 0 n)) none ∙ append-nil batch)

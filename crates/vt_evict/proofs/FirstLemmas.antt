-- The table in which only the pinned pages are mapped.
use Rattle.std.proofs.Common.{◌≡◌, ℕ, zero, suc, ◌+◌, ◌-◌, ◌<◌, ◌≤◌, ◌⊎◌, inl, inr, Bool, true, false, not, ◌&&◌, nat_lt, nat_le, List, [], ◌∷◌, ◌++◌, length, length-append, replicate, slice_index, refl, sym, ap, ◌∙◌, add-one, arith}
use Rattle.std.specs.List.{IsDistinct, range_with_len}
use Rattle.std.proofs.lemmas.Grind.{common_steps}
use Rattle.std.proofs.lemmas.Bool.{cases_lt}
use Rattle.std.proofs.lemmas.Bool.Decides.{nat_tests}
use Rattle.std.proofs.lemmas.List.{get_or_append_left, get_or-append-add, get_or_past, length-replicate}
use Rattle.std.proofs.lemmas.List.FromFn.{length-range_with_len, get_or-range_with_len}
use Rattle.vt_plan.specs.Limits.{most_frames}
use Rattle.vt_plan.specs.Shape.{Shape}
use Rattle.vt_plan.specs.Pages.{pages_of, IsWithinLimits}
use Rattle.vt_plan.specs.Views.{IsRecencyTable, is_held, first_view}
use Rattle.vt_evict.proofs.SettleLemmas.{held_from, held_by, same_bool}

pub range-more : (a n : ℕ) → range_with_len a (n + 1) ≡ range_with_len a n ++ (a + n) ∷ []
range-more a n = rw add-one (go a n) where
  go : (a n : ℕ) → range_with_len a (suc n) ≡ range_with_len a n ++ (a + n) ∷ []
  go a zero = let e : a + 0 ≡ a = omega arith in ap (λ (x : ℕ). x ∷ []) (sym e)
  go a (suc n) = let e : a + 1 + n ≡ a + suc n = omega arith in ap (λ (l : List ℕ). a ∷ l) (go (a + 1) n ∙ ap (λ (x : ℕ). range_with_len (a + 1) n ++ x ∷ []) e)

module _ (low pinned : ℕ) where
  length_firsts : length (replicate low 0 ++ range_with_len 1 pinned) ≡ low + pinned
  length_firsts = length-append (replicate low 0) (range_with_len 1 pinned) ∙ omega (arith, length-replicate {A = ℕ} low 0, length-range_with_len 1 pinned)

  low_at : (p : ℕ) → p < low → slice_index (replicate low 0 ++ range_with_len 1 pinned) p ≡ 0
  low_at p below = get_or_append_left (replicate low 0) (range_with_len 1 pinned) 0 p (omega (arith, length-replicate {A = ℕ} low 0)) ∙ zeros p where
    zeros : (p : ℕ) → slice_index (replicate low 0) p ≡ 0
    zeros p = grind (arith, common_steps)

  high_at : (i : ℕ) → i < pinned → slice_index (replicate low 0 ++ range_with_len 1 pinned) (low + i) ≡ i + 1
  high_at i below =
      ap (λ (n : ℕ). slice_index (replicate low 0 ++ range_with_len 1 pinned) (n + i)) (sym (length-replicate low 0))
      ∙ get_or-append-add (replicate low 0) (range_with_len 1 pinned) i 0 ∙ get_or-range_with_len 1 pinned i 0 below ∙ omega arith

  past_at : (p : ℕ) → low + pinned ≤ p → slice_index (replicate low 0 ++ range_with_len 1 pinned) p ≡ 0
  past_at p past = get_or_past (replicate low 0 ++ range_with_len 1 pinned) p 0 (omega (arith, length_firsts))

  -- what a page has: nothing, or one more than its place among the pinned ones
  pub at : (p : ℕ) → ((slice_index (replicate low 0 ++ range_with_len 1 pinned) p ≡ 0) × ((low ≤ p) → (low + pinned ≤ p)))
      ⊎ ((slice_index (replicate low 0 ++ range_with_len 1 pinned) p + low ≡ p + 1) × (low ≤ p) × (p < low + pinned))
  at p = elim (cases_lt p low) [
    | inl below ↦ inl (low_at p below, λ h. omega arith)
    | inr above ↦ elim (cases_lt p (low + pinned)) [
      | inl inside ↦ let e : low + (p - low) ≡ p = omega arith in let v = high_at (p - low) (omega arith) in
          let w : slice_index (replicate low 0 ++ range_with_len 1 pinned) p ≡ p - low + 1 = ap (slice_index (replicate low 0
          ++ range_with_len 1 pinned)) (sym e) ∙ v in
          inr (omega arith, above, inside)
      | inr past ↦ inl (past_at p past, λ h. past)
    ]
  ]

pub first_table : (s : Shape) (frames pinned : ℕ) → IsWithinLimits s → frames ≤ most_frames → 1 ≤ pinned → pinned ≤ frames → pinned ≤ pages_of s
    → IsRecencyTable (first_view s frames pinned)
unfolding first_view IsDistinct
first_table s frames pinned limits most some enough pages = record {
  limits = limits;
  most_frames = most;
  some_pinned = some;
  enough_frames = enough;
  enough_pages = pages;
  entries_for_all = length_firsts (pages_of s - pinned) pinned ∙ omega arith;
  frames_inside = inside;
  pinned_mapped = mapped;
  apart = apart;
  in_order = order;
  once = tt;
} where
  inside : (p : ℕ) → slice_index (replicate (pages_of s - pinned) 0 ++ range_with_len 1 pinned) p ≤ frames
  inside p = elim (at (pages_of s - pinned) pinned p) [ inl h ↦ omega (arith, h.0) | inr h ↦ omega (arith, h.0, h.2) ]

  mapped : (p : ℕ) → p < pages_of s → nat_le (pages_of s) (p + pinned) ≡ true
      → nat_lt 0 (slice_index (replicate (pages_of s - pinned) 0 ++ range_with_len 1 pinned) p) ≡ true
  mapped p below pin = elim (at (pages_of s - pinned) pinned p) [
    | inl h ↦ absurd (let from : pages_of s ≤ p + pinned = le_is (pages_of s) (p + pinned) pin in let past = h.1 (omega arith) in omega arith)
    | inr h ↦ lt_true 0 (slice_index (replicate (pages_of s - pinned) 0 ++ range_with_len 1 pinned) p) (omega (arith, h.0, h.1))
  ] where
    le_is : (a b : ℕ) → nat_le a b ≡ true → a ≤ b
    le_is a b h = grind (arith, nat_tests)

    lt_true : (a b : ℕ) → a < b → nat_lt a b ≡ true
    lt_true a b h = grind (arith, nat_tests)

  apart : (p q : ℕ) → nat_lt 0 (slice_index (replicate (pages_of s - pinned) 0 ++ range_with_len 1 pinned) p) ≡ true
      → slice_index (replicate (pages_of s - pinned) 0 ++ range_with_len 1 pinned) p ≡ slice_index (replicate (pages_of s - pinned) 0
      ++ range_with_len 1 pinned) q → p ≡ q
  apart p q m e = let some' : 0 < slice_index (replicate (pages_of s - pinned) 0 ++ range_with_len 1 pinned) p = lt_is 0 _ m in
      elim (at (pages_of s - pinned) pinned p) [
        | inl h ↦ absurd (omega (arith, h.0))
        | inr h ↦ elim (at (pages_of s - pinned) pinned q) [ inl k ↦ absurd (omega (arith, k.0)) | inr k ↦ omega (arith, h.0, k.0) ]
      ] where
        lt_is : (a b : ℕ) → nat_lt a b ≡ true → a < b
        lt_is a b h = grind (arith, nat_tests)

  order : (p : ℕ) → false ≡ (nat_lt 0 (slice_index (replicate (pages_of s - pinned) 0 ++ range_with_len 1 pinned) p) && not (nat_le (pages_of s) (p + pinned)))
  order p = elim (at (pages_of s - pinned) pinned p) [
    | inl h ↦ zero_not (slice_index (replicate (pages_of s - pinned) 0 ++ range_with_len 1 pinned) p) (not (nat_le (pages_of s) (p + pinned))) h.0
    | inr h ↦ pinned_not (nat_lt 0 (slice_index (replicate (pages_of s - pinned) 0
        ++ range_with_len 1 pinned) p)) (pages_of s) (p + pinned) (omega (arith, h.1))
  ] where
    zero_not : (n : ℕ) (b : Bool) → n ≡ 0 → false ≡ (nat_lt 0 n && b)
    zero_not n b e = grind (arith, nat_tests)

    pinned_not : (b : Bool) (m n : ℕ) → m ≤ n → false ≡ (b && not (nat_le m n))
    pinned_not true m n h = grind (arith, nat_tests)
    pinned_not false m n h = refl

pub first_free : (s : Shape) (frames pinned : ℕ) → pinned ≤ pages_of s → (f : ℕ)
    → (nat_le pinned f && nat_lt f frames) ≡ (nat_lt f frames && not (is_held (replicate (pages_of s - pinned) 0 ++ range_with_len 1 pinned) f))
first_free s frames pinned pages f = swap (nat_le pinned f) (nat_lt f frames) (is_held (replicate (pages_of s - pinned) 0
    ++ range_with_len 1 pinned) f) held where
      swap : (a b c : Bool) → c ≡ not a → (a && b) ≡ (b && not c)
      swap true true c e = rw e refl
      swap true false c e = refl
      swap false true c e = rw e refl
      swap false false c e = refl

      taken : is_held (replicate (pages_of s - pinned) 0 ++ range_with_len 1 pinned) f ≡ true → nat_lt f pinned ≡ true
      taken e = let found = held_by _ f e in elim (at (pages_of s - pinned) pinned found.0) [
        | inl h ↦ absurd (omega (arith, h.0, found.1))
        | inr h ↦ lt_true f pinned (omega (arith, h.0, h.2, found.1))
      ] where
        lt_true : (a b : ℕ) → a < b → nat_lt a b ≡ true
        lt_true a b h = grind (arith, nat_tests)

      given : nat_lt f pinned ≡ true → is_held (replicate (pages_of s - pinned) 0 ++ range_with_len 1 pinned) f ≡ true
      given e = held_from (replicate (pages_of s - pinned) 0 ++ range_with_len 1 pinned) f (pages_of s - pinned + f)
          (high_at (pages_of s - pinned) pinned f (lt_is f pinned e)) where
            lt_is : (a b : ℕ) → nat_lt a b ≡ true → a < b
            lt_is a b h = grind (arith, nat_tests)

      flip : nat_lt f pinned ≡ not (nat_le pinned f)
      flip = grind (arith, nat_tests)

      held : is_held (replicate (pages_of s - pinned) 0 ++ range_with_len 1 pinned) f ≡ not (nat_le pinned f)
      held = same_bool _ (nat_lt f pinned) taken given ∙ flip

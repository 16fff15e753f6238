-- Blocks of counts that are added, cleared or passed over.
use Rattle.std.proofs.Common.{◌≡◌, ◌≢◌, ℕ, ◌+◌, ◌-◌, ◌*◌, ◌<◌, ◌≤◌, inl, inr, Bool, true, false, ◌||◌, List, length, slice_index, refl, sym, ap, ◌∙◌, arith}
use Rattle.std.specs.Prelude.{min, slice_index_or}
use Rattle.std.proofs.lemmas.Bool.{false≢true, cases_lt}
use Rattle.std.proofs.lemmas.List.{get_or_past}
use Rattle.vt_pages.specs.Shape.{Shape}
use Rattle.vt_feedback.specs.Blocks.{AreMarked}
use Rattle.vt_feedback.specs.Ranks.{ranks_below}
use Rattle.vt_feedback.proofs.RankLemmas.{ranks-passed}

-- a block whose first page is among the pages
pub first_inside : (counts : List ℕ) (marks : List Bool) (n : ℕ) → AreMarked counts marks → n < length marks → n * 64 < length counts
first_inside counts marks n m inside = omega (arith, m.few, inside)

-- the counts of one block more are added: those from its first page on up to its end
module _ (start sums new counts : List ℕ) (n end : ℕ) (short : end ≤ n * 64 + 64) (all : end < length counts → end ≡ n * 64 + 64)
    (below : (p : ℕ) → p < n * 64 → slice_index new p ≡ slice_index sums p)
    (above : (p : ℕ) → end ≤ p → slice_index new p ≡ slice_index sums p)
    (kept : (p : ℕ) → n * 64 ≤ p → slice_index sums p ≡ slice_index start p) where
  behind : (p : ℕ) → end ≤ p → p < n * 64 + 64 → length counts ≤ p
  behind p over under = elim (cases_lt end (length counts)) [
    | inl less ↦ absurd (omega (arith, all less))
    | inr past ↦ omega arith
  ]

  pub added_more : ((p : ℕ) → n * 64 ≤ p → p < end → slice_index new p ≡ slice_index sums p + slice_index counts p)
      → ((p : ℕ) → p < n * 64 → slice_index sums p ≡ slice_index start p + slice_index counts p)
      → (p : ℕ) → p < (n + 1) * 64 → slice_index new p ≡ slice_index start p + slice_index counts p
  added_more added before p under = elim (cases_lt p (n * 64)) [
    | inl less ↦ below p less ∙ before p less
    | inr past ↦ elim (cases_lt p end) [
      | inl within ↦ added p past within ∙ ap (λ k. k + slice_index counts p) (kept p past)
      | inr over ↦
          let none : slice_index counts p ≡ 0 = get_or_past counts p 0 (behind p over (omega arith)) in
          omega (arith, above p over, kept p past, none)
    ]
  ]

  pub kept_more : (p : ℕ) → (n + 1) * 64 ≤ p → slice_index new p ≡ slice_index start p
  kept_more p past = above p (omega arith) ∙ kept p (omega arith)

  -- a block that has no mark afterwards had none before, and none of its pages is wanted
  pub low_more : (marks later : List Bool) (wanted : Bool) → length later ≡ length marks
      → ((b : ℕ) → b ≢ n → slice_index_or later b false ≡ slice_index_or marks b false)
      → (slice_index_or later n false ≡ false → (slice_index_or marks n false ≡ false) × (wanted ≡ false))
      → (wanted ≡ false → (p : ℕ) → n * 64 ≤ p → p < end → slice_index counts p ≡ 0)
      → ((p : ℕ) → n * 64 ≤ p → p < end → slice_index new p ≡ slice_index sums p + slice_index counts p)
      → ((b p : ℕ) → b < length marks → slice_index_or marks b false ≡ false → b * 64 ≤ p → p < b * 64 + 64 → slice_index sums p ≡ 0)
      → (b p : ℕ) → b < length later → slice_index_or later b false ≡ false → b * 64 ≤ p → p < b * 64 + 64 → slice_index new p ≡ 0
  low_more marks later wanted same others this none added low b p inside unmarked least most = elim (cases_lt b n) [
    | inl under ↦
        let old = low b p (omega arith) (sym (others b (λ e. omega (arith, e))) ∙ unmarked) least most in
        omega (arith, below p (omega arith), old)
    | inr past ↦ elim (cases_lt n b) [
      | inl over ↦
          let old = low b p (omega arith) (sym (others b (λ e. omega (arith, e))) ∙ unmarked) least most in
          omega (arith, above p (omega arith), old)
      | inr at ↦
          let e : b ≡ n = omega arith in
          let both = this (ap (λ k. slice_index_or later k false) (sym e) ∙ unmarked) in
          let old = low n p (omega arith) both.0 (omega arith) (omega arith) in
          elim (cases_lt p end) [
            | inl within ↦ omega (arith, added p (omega arith) within, none both.1 p (omega arith) within, old)
            | inr beyond ↦ omega (arith, above p beyond, old)
          ]
    ]
  ]

-- neither of two marks is set
pub both_false : (a b : Bool) → (a || b) ≡ false → (a ≡ false) × (b ≡ false)
both_false false b e = (refl, e)
both_false true b e = absurd (false≢true (sym e))

-- the block ends where the next one begins, or where the pages end
pub end_is : (n end pages : ℕ) → n * 64 < pages → end ≤ pages → end ≤ n * 64 + 64 → (end < pages → end ≡ n * 64 + 64) → end ≡ min ((n + 1) * 64) pages
end_is n end pages inside within short all = elim (cases_lt end pages) [
  | inl less ↦ omega (arith, all less)
  | inr past ↦ omega arith
]

-- a block without a mark adds no ranks
pub ranks_kept : (s : Shape) (counts : List ℕ) (marks : List Bool) (n : ℕ) → AreMarked counts marks → n < length marks
    → slice_index_or marks n false ≡ false
    → ranks_below s counts (min (n * 64) (length counts)) ≡ ranks_below s counts (min ((n + 1) * 64) (length counts))
ranks_kept s counts marks n m inside unmarked =
    let first = first_inside counts marks n m inside in
    let more : ℕ = min ((n + 1) * 64) (length counts) - n * 64 in
    let e : min (n * 64) (length counts) ≡ n * 64 = omega arith in
    let f : n * 64 + more ≡ min ((n + 1) * 64) (length counts) = omega arith in
    ap (ranks_below s counts) e
    ∙ sym (ranks-passed s counts (n * 64) more (λ p below. m.low n (n * 64 + p) inside unmarked (omega arith) (omega arith)))
    ∙ ap (ranks_below s counts) f

-- Samplers that are the same but for their readers and their ways.
use Rattle.std.proofs.Common.{◌≡◌, ℕ, suc, ◌<◌, List, [], ◌∷◌, length, get_or, Some, refl, ap, ◌∙◌, arith}
use Rattle.std.specs.Prelude.{slice_get, slice_index, All}
use Rattle.std.proofs.lemmas.List.Sums.{sum_by-cons}
use Rattle.std.proofs.lemmas.Option.{slice_get_within, slice_get-get_or}
use Rattle.vt_journal.specs.Shape.{Shape}
use Rattle.vt_pass_rows.specs.declared.sampler.PassSampler.{PassSampler}
use Rattle.vt_pass_pool.specs.Placing.{counted_by}
use Rattle.vt_pass_pool.specs.Pools.{IsSameSampler, AreSamplers, AreSameSamplers}

pub same_samplers : {T S H R W B O M : Type 0} (s : Shape) (count : ℕ) (before after : List (PassSampler T S H R W B O M)) → AreSamplers s count before
    → AreSameSamplers before after → AreSamplers s count after
same_samplers s count before after are same = record {
  number = same.count ∙ are.number;
  each = λ n b is.
      let a = get_or before n b in
      let there : slice_get before n ≡ Some a = slice_get-get_or before n b
      (let w = slice_get_within after n b is in let m = same.count in omega (arith, w, m)) in
      let x = same.each n a b there is in
      let was = are.each n a there in
      record {
        number_is = x.number ∙ was.number_is;
        pages = ap (λ v. length v.items) x.counts ∙ was.pages;
        none = x.none;
      };
}

module _ {T S H R W B O M : Type 0} where
  pub same_pages : (n : ℕ) (before after : List (PassSampler T S H R W B O M)) → AreSameSamplers before after
      → All (λ (a : PassSampler T S H R W B O M). length a.counts.items ≡ n) before → All (λ (a : PassSampler T S H R W B O M). length a.counts.items ≡ n) after
  same_pages n before after same all k d inside =
      let b = get_or after k d in
      let low : k < length before = (let m = same.count in omega (arith, m, inside)) in
      let a = get_or before k d in
      ap (λ v. length v.items) (same.each k a b (slice_get-get_or before k d low) (slice_get-get_or after k d inside)).counts ∙ all k d low

  -- what they have counted together
  pub same_counted : (p : ℕ) (before after : List (PassSampler T S H R W B O M)) → AreSameSamplers before after → counted_by after p ≡ counted_by before p
  same_counted p before after same = by_place before after same.count same.each where
    by_place : (xs ys : List (PassSampler T S H R W B O M)) → length ys ≡ length xs
        → ((k : ℕ) (a b : PassSampler T S H R W B O M) → slice_get xs k ≡ Some a → slice_get ys k ≡ Some b → IsSameSampler a b)
        → counted_by ys p ≡ counted_by xs p
    by_place [] [] number each = refl
    by_place [] (y ∷ ys) number each = absurd (omega (arith, number))
    by_place (x ∷ xs) [] number each = absurd (omega (arith, number))
    by_place (x ∷ xs) (y ∷ ys) number each = omega (
      arith,
      ap (λ v. slice_index v.items p) (each 0 x y refl refl).counts,
      by_place xs ys (omega (arith, number)) (λ k a b there is. each (suc k) a b there is),
      sum_by-cons (λ (a : PassSampler T S H R W B O M). slice_index a.counts.items p) x xs,
      sum_by-cons (λ (a : PassSampler T S H R W B O M). slice_index a.counts.items p) y ys,
    )

-- How many bytes of two texts are other.
use Rattle.std.proofs.Common.{◌≡◌, ◌≢◌, ℕ, ◌+◌, Bool, true, false, cond, not, List, [], ◌∷◌, ◌++◌, slice_index, refl, ap, ◌∙◌, add-one, arith}
use Rattle.std.specs.Prelude.{◌==◌}
use Rattle.std.specs.List.{range_with_len, count_by}
use Rattle.std.proofs.lemmas.Bool.{eqb-true, eqb-false}
use Rattle.std.proofs.lemmas.List.Sums.{sum_by-append}
use Rattle.vt_draw.proofs.Ranges.{range_more}
use Rattle.vt_walk_commands.specs.commands.Trial.{other_bytes}

pub other-none : (a b : List ℕ) → other_bytes a b 0 ≡ 0
unfolding other_bytes
other-none a b = refl

other-more : (a b : List ℕ) (n : ℕ) → other_bytes a b (n + 1) ≡ other_bytes a b n + (0 + cond (not (slice_index a n == slice_index b n)) 1 0)
unfolding other_bytes
other-more a b n =
    let test : ℕ → Bool = λ i. not (slice_index a i == slice_index b i) in
    ap (λ (m : ℕ). count_by test (range_with_len 0 m)) (add-one n)
    ∙ ap (count_by test) (range_more 0 n ∙ ap (λ (m : ℕ). range_with_len 0 n ++ m ∷ []) (omega arith))
    ∙ sum_by-append (λ (x : ℕ). cond (test x) 1 0) (range_with_len 0 n) (n ∷ [])

pub other-same : (a b : List ℕ) (n : ℕ) → slice_index a n ≡ slice_index b n → other_bytes a b (n + 1) ≡ other_bytes a b n
other-same a b n same = step (slice_index a n == slice_index b n) refl (other-more a b n) where
  step : (t : Bool) → (slice_index a n == slice_index b n) ≡ t
      → other_bytes a b (n + 1) ≡ other_bytes a b n + (0 + cond (not t) 1 0) → other_bytes a b (n + 1) ≡ other_bytes a b n
  step true e more = omega arith
  step false e more = absurd (eqb-false _ _ e same)

pub other-one : (a b : List ℕ) (n : ℕ) → slice_index a n ≢ slice_index b n → other_bytes a b (n + 1) ≡ other_bytes a b n + 1
other-one a b n other = step (slice_index a n == slice_index b n) refl (other-more a b n) where
  step : (t : Bool) → (slice_index a n == slice_index b n) ≡ t
      → other_bytes a b (n + 1) ≡ other_bytes a b n + (0 + cond (not t) 1 0) → other_bytes a b (n + 1) ≡ other_bytes a b n + 1
  step true e more = absurd (other (eqb-true _ _ e))
  step false e more = omega arith

-- Samples of bytes in two parts.
use Rattle.std.proofs.Common.{◌≡◌, ℕ, zero, suc, inl, inr, ◌+◌, ◌-◌, ◌*◌, ◌<◌, ◌≤◌, List, ◌++◌, length, get_or, refl, sym, ap, ◌∙◌, subst, arith}
use Rattle.std.specs.Prelude.{slice_index}
use Rattle.std.proofs.Math.Nat.{mul-le-mul_left}
use Rattle.std.proofs.lemmas.Bool.{cases_lt}
use Rattle.std.proofs.lemmas.List.{get_or_append_left, get_or-append_right}
use Rattle.vt_definitions.specs.Numbers.{number_from}
use Rattle.vt_definitions.specs.Depths.{sample_at}
use Rattle.vt_ppm.specs.Format.{AreUpTo, scaled}
use Rattle.vt_ppm.specs.Samples.{AreScaledUpTo, IsFirstOver}

-- the same bytes from two places on make the same number
number_same : (a b : List ℕ) (i j n : ℕ) → ((k : ℕ) → k < n → slice_index a (i + k) ≡ slice_index b (j + k)) → number_from a i n ≡ number_from b j n
number_same a b i j zero same = refl
number_same a b i j (suc n) same =
    let front : number_from a i n ≡ number_from b j n = number_same a b i j n (λ k low. same k (omega arith)) in
    let last : slice_index a (i + n) ≡ slice_index b (j + n) = same n (omega arith) in
    omega (arith, front, last)

-- so many samples are in front of a later one
room : (d i n : ℕ) → i < n → d * i + d ≤ d * n
room d i n low = let more : d * (i + 1) ≤ d * n = mul-le-mul_left d (let s : i + 1 ≤ n = omega arith in s) in omega (arith, more)

-- a sample of the first part
pub sample_before : (d : ℕ) (a b : List ℕ) (n i : ℕ) → length a ≡ d * n → i < n → sample_at d (a ++ b) i ≡ sample_at d a i
sample_before d a b n i full inside =
    number_same (a ++ b) a (d * i) (d * i) d (λ k low. get_or_append_left a b 0 (d * i + k) (omega (arith, low, full, room d i n inside)))

-- a sample of the second part
pub sample_behind : (d : ℕ) (a b : List ℕ) (n i : ℕ) → length a ≡ d * n → sample_at d (a ++ b) (n + i) ≡ sample_at d b i
sample_behind d a b n i full = number_same (a ++ b) b (d * (n + i)) (d * i) d (λ k low.
    let e : d * (n + i) + k ≡ d * n + (d * i + k) = omega arith in
    get_or-append_right a b (d * n) (d * (n + i) + k) 0 full (omega (arith, e))
    ∙ ap (λ (m : ℕ). get_or b m 0) (let s : d * (n + i) + k - d * n ≡ d * i + k = omega (arith, e) in s))

module _ (d m n k : ℕ) (a b : List ℕ) (full : length a ≡ d * n) where
  -- samples of both parts that are up to the maximum
  up_to : AreUpTo d m n a → (i : ℕ) → i < n → sample_at d (a ++ b) i ≤ m
  up_to each i inside = subst (λ (s : ℕ). s ≤ m) (sym (sample_before d a b n i full inside)) (each i inside)

  over_behind : AreUpTo d m n a → AreUpTo d m k b → AreUpTo d m (n + k) (a ++ b)
  over_behind early late i inside = elim (cases_lt i n) [
    | inl before ↦ up_to early i before
    | inr past ↦ subst (λ (j : ℕ). sample_at d (a ++ b) j ≤ m) (let s : n + (i - n) ≡ i = omega (arith, past) in s)
        (subst (λ (s : ℕ). s ≤ m) (sym (sample_behind d a b n (i - n) full)) (late (i - n) (omega (arith, past, inside))))
  ]

  first_before : (number : ℕ) → IsFirstOver d m n a number → IsFirstOver d m (n + k) (a ++ b) number
  first_before number is = record {
    within = omega (arith, is.within);
    over = subst (λ (s : ℕ). m < s) (sym (sample_before d a b n number full is.within)) is.over;
    first = λ i inside. subst (λ (s : ℕ). s ≤ m) (sym (sample_before d a b n i full (omega (arith, inside, is.within)))) (is.first i inside);
  }

  first_behind : (number : ℕ) → AreUpTo d m n a → IsFirstOver d m k b number → IsFirstOver d m (n + k) (a ++ b) (n + number)
  first_behind number early is = record {
    within = omega (arith, is.within);
    over = subst (λ (s : ℕ). m < s) (sym (sample_behind d a b n number full)) is.over;
    first = λ i inside. elim (cases_lt i n) [
      | inl before ↦ up_to early i before
      | inr past ↦ subst (λ (j : ℕ). sample_at d (a ++ b) j ≤ m) (let s : n + (i - n) ≡ i = omega (arith, past) in s)
          (subst (λ (s : ℕ). s ≤ m) (sym (sample_behind d a b n (i - n) full)) (is.first (i - n) (omega (arith, past, inside))))
    ];
  }

  both_scaled : (c e : List ℕ) → length c ≡ d * n → AreScaledUpTo d m n a c → AreScaledUpTo d m k b e → AreScaledUpTo d m (n + k) (a ++ b) (c ++ e)
  both_scaled c e same low high i inside few = elim (cases_lt i n) [
    | inl before ↦
        let old : sample_at d (a ++ b) i ≡ sample_at d a i = sample_before d a b n i full before in
        sample_before d c e n i same before ∙ low i before (subst (λ (s : ℕ). s ≤ m) old few) ∙ ap (scaled d m) (sym old)
    | inr past ↦
        let at : n + (i - n) ≡ i = omega (arith, past) in
        let old : sample_at d (a ++ b) i ≡ sample_at d b (i - n) = ap (sample_at d (a ++ b)) (sym at) ∙ sample_behind d a b n (i - n) full in
        ap (sample_at d (c ++ e)) (sym at) ∙ sample_behind d c e n (i - n) same
        ∙ high (i - n) (omega (arith, past, inside)) (subst (λ (s : ℕ). s ≤ m) old few) ∙ ap (scaled d m) (sym old)
  ]

-- the same of a raster and the numbers of samples that are known otherwise
module _ (d m n k count : ℕ) (raster a b : List ℕ) (full : length a ≡ d * n) (parts : raster ≡ a ++ b) (all : count ≡ n + k) where
  pub none_over : AreUpTo d m n a → AreUpTo d m k b → AreUpTo d m count raster
  none_over early late = subst (λ (l : List ℕ). AreUpTo d m count l) (sym parts)
      (subst (λ (c : ℕ). AreUpTo d m c (a ++ b)) (sym all) (over_behind d m n k a b full early late))

  pub early_over : (number : ℕ) → IsFirstOver d m n a number → IsFirstOver d m count raster number
  early_over number is = subst (λ (l : List ℕ). IsFirstOver d m count l number) (sym parts)
      (subst (λ (c : ℕ). IsFirstOver d m c (a ++ b) number) (sym all) (first_before d m n k a b full number is))

  pub late_over : (number : ℕ) → AreUpTo d m n a → IsFirstOver d m k b number → IsFirstOver d m count raster (n + number)
  late_over number early is = subst (λ (l : List ℕ). IsFirstOver d m count l (n + number)) (sym parts)
      (subst (λ (c : ℕ). IsFirstOver d m c (a ++ b) (n + number)) (sym all) (first_behind d m n k a b full number early is))

  pub parts_scaled : (c e : List ℕ) → length c ≡ length a → AreScaledUpTo d m n a c → AreScaledUpTo d m k b e → AreScaledUpTo d m count raster (c ++ e)
  parts_scaled c e same low high = subst (λ (l : List ℕ). AreScaledUpTo d m count l (c ++ e)) (sym parts)
      (subst (λ (j : ℕ). AreScaledUpTo d m j (a ++ b) (c ++ e)) (sym all) (both_scaled d m n k a b full c e (same ∙ full) low high))

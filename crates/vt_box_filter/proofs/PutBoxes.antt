-- The three samples of a texel, written one after the other.
use Rattle.std.proofs.Common.{◌≡◌, ◌≢◌, ◌⊎◌, inl, inr, ℕ, zero, suc, ◌+◌, ◌-◌, ◌*◌, ◌/◌, ◌%◌, ◌<◌, List, ap, sym, ◌∙◌, arith}
use Rattle.vt_definitions.specs.Depths.{sample_at}
use Rattle.vt_box_filter.specs.Boxes.{clamped}
use Rattle.vt_box_filter.specs.Boxes.{box_at}
use Rattle.vt_box_filter.specs.HalvedRows.{IsHalvedRow, row_sample, pair_sample}

three : (P : ℕ → Type 0) → P 0 → P 1 → P 2 → (n : ℕ) → n < 3 → P n
three P a b c zero few = a
three P a b c (suc zero) few = b
three P a b c (suc (suc zero)) few = c
three P a b c (suc (suc (suc n))) few = absurd (omega arith)

pub three_boxes : (d : ℕ) (top bottom first second third : List ℕ) (i j k : ℕ) → sample_at d first k ≡ box_at d top bottom i j
    → sample_at d second (k + 1) ≡ box_at d top bottom (i + 1) (j + 1) → sample_at d third (k + 2) ≡ box_at d top bottom (i + 2) (j + 2)
    → ((m : ℕ) → m ≢ k + 1 → sample_at d second m ≡ sample_at d first m) → ((m : ℕ) → m ≢ k + 2 → sample_at d third m ≡ sample_at d second m)
    → (n : ℕ) → n < 3 → sample_at d third (k + n) ≡ box_at d top bottom (i + n) (j + n)
three_boxes d top bottom first second third i j k red green blue after_red after_green =
    three (λ n. sample_at d third (k + n) ≡ box_at d top bottom (i + n) (j + n))
    (let ei : i + 0 ≡ i = omega arith in
    let ej : j + 0 ≡ j = omega arith in
    let ek : k + 0 ≡ k = omega arith in
    ap (sample_at d third) ek ∙ after_green k (λ e. absurd (omega arith)) ∙ after_red k (λ e. absurd (omega arith)) ∙ red
    ∙ sym (ap (λ n. box_at d top bottom n (j + 0)) ei ∙ ap (box_at d top bottom i) ej))
    (after_green (k + 1) (λ e. absurd (omega arith)) ∙ green) blue

pub none_before : (d : ℕ) (old first second third : List ℕ) (k : ℕ) → ((m : ℕ) → m ≢ k → sample_at d first m ≡ sample_at d old m)
    → ((m : ℕ) → m ≢ k + 1 → sample_at d second m ≡ sample_at d first m) → ((m : ℕ) → m ≢ k + 2 → sample_at d third m ≡ sample_at d second m)
    → (m : ℕ) → m < k → sample_at d third m ≡ sample_at d old m
none_before d old first second third k red green blue m below =
    blue m (λ e. absurd (omega arith)) ∙ green m (λ e. absurd (omega arith)) ∙ red m (λ e. absurd (omega arith))

-- an odd last column, which counts twice
pub last_column : (d : ℕ) (top bottom old new : List ℕ) (w last k : ℕ) → w % 2 ≡ 1 → last ≡ 3 * (w - 1) → k ≡ 3 * (w / 2)
    → ((c : ℕ) → c < 3 → sample_at d new (k + c) ≡ box_at d top bottom (last + c) (last + c))
    → ((m : ℕ) → m < k → sample_at d new m ≡ sample_at d old m)
    → IsHalvedRow d top bottom w (w / 2) old → IsHalvedRow d top bottom w ((w + 1) / 2) new
last_column d top bottom old new w last k odd el ek written kept before = record { each = λ x c below few. each x c few (split x below) } where
  split : (x : ℕ) → x < (w + 1) / 2 → (x < w / 2) ⊎ (x ≡ w / 2)
  split x below = grind arith

  each : (x c : ℕ) → c < 3 → (x < w / 2) ⊎ (x ≡ w / 2) → row_sample d new x c ≡ pair_sample d top bottom w x c
  each x c few (inl low) = kept (3 * x + c) (omega (arith, ek, low, few)) ∙ before.each x c low few
  each x c few (inr e) =
      let at : 3 * x + c ≡ k + c = omega (arith, e, ek) in
      let left : last + c ≡ 3 * clamped w (2 * x) + c = omega (arith, el, e, odd) in
      let right : last + c ≡ 3 * clamped w (2 * x + 1) + c = omega (arith, el, e, odd) in
      ap (sample_at d new) at ∙ written c few ∙ ap (λ n. box_at d top bottom n (last + c)) left
      ∙ ap (λ n. box_at d top bottom (3 * clamped w (2 * x) + c) n) right

-- one pair of columns more
pub next_column : (d : ℕ) (top bottom old new : List ℕ) (w n : ℕ) → n < w / 2
    → ((c : ℕ) → c < 3 → sample_at d new (3 * n + c) ≡ box_at d top bottom (6 * n + c) (6 * n + 3 + c))
    → ((m : ℕ) → m < 3 * n → sample_at d new m ≡ sample_at d old m) → IsHalvedRow d top bottom w n old → IsHalvedRow d top bottom w (n + 1) new
next_column d top bottom old new w n inside written kept before = record { each = λ x c below few. each x c few (split x below) } where
  split : (x : ℕ) → x < n + 1 → (x < n) ⊎ (x ≡ n)
  split x below = grind arith

  each : (x c : ℕ) → c < 3 → (x < n) ⊎ (x ≡ n) → row_sample d new x c ≡ pair_sample d top bottom w x c
  each x c few (inl low) = kept (3 * x + c) (omega (arith, low, few)) ∙ before.each x c low few
  each x c few (inr e) =
      let at : 3 * x + c ≡ 3 * n + c = omega (arith, e) in
      let left : 6 * n + c ≡ 3 * clamped w (2 * x) + c = omega (arith, e, inside) in
      let right : 6 * n + 3 + c ≡ 3 * clamped w (2 * x + 1) + c = omega (arith, e, inside) in
      ap (sample_at d new) at ∙ written c few ∙ ap (λ m. box_at d top bottom m (6 * n + 3 + c)) left
      ∙ ap (λ m. box_at d top bottom (3 * clamped w (2 * x) + c) m) right

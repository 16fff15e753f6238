-- A halved row, block by block.
use Rattle.std.proofs.Common.{◌≡◌, ℕ, inl, inr, ◌+◌, ◌-◌, ◌*◌, ◌/◌, ◌<◌, ◌≤◌, ◌⊎◌, List, length, take, drop, ◌∙◌, arith}
use Rattle.std.proofs.Math.Nat.{mul-le-mul_left}
use borrow.Rule.Slice.PartMut.{put_mid}
use Rattle.vt_definitions.specs.Depths.{sample_at}
use Rattle.vt_box_filter.specs.Boxes.{clamped}
use Rattle.vt_box_filter.specs.HalvedRows.{IsHalvedRow, pair_sample}
use Rattle.vt_box_filter.proofs.PartSamples.{cut_sample, kept_sample, written_sample, box_same}

-- the half of a block lies within the half of its row
pub half_room : (d w n size m : ℕ) → n < w / 32 → size ≡ 3 * d * 16 → m ≡ 3 * d * ((w + 1) / 2) → size * n ≤ m
half_room d w n size m low e f =
    let more : 3 * d * (16 * n) ≤ 3 * d * ((w + 1) / 2) = mul-le-mul_left (3 * d) (let s : 16 * n ≤ (w + 1) / 2 = omega arith in s) in
    rw e (omega (arith, more, f))

-- one block more
pub next_block : (d : ℕ) (top bottom out new : List ℕ) (w n from j j' to k : ℕ) → n < w / 32 → from ≡ d * (96 * n) → to ≡ d * (48 * n)
    → to ≤ length out → length new ≡ d * 48 → j ≡ d * 96 → j' ≡ d * 96
    → IsHalvedRow d top bottom w (16 * n) out
    → IsHalvedRow d (take j (drop from top)) (take j' (drop from bottom)) 32 16 new
    → IsHalvedRow d top bottom w (16 * (n + 1)) (put_mid to k out new)
next_block d top bottom out new w n from j j' to k inside begins put fits whole e e' before block = record {
  each = λ x c p q. step x c q (split x p);
} where
  split : (x : ℕ) → x < 16 * (n + 1) → (x < 16 * n) ⊎ ((16 * n ≤ x) × (x < 16 * n + 16))
  split x p = grind arith

  step : (x c : ℕ) → c < 3 → (x < 16 * n) ⊎ ((16 * n ≤ x) × (x < 16 * n + 16))
      → sample_at d (put_mid to k out new) (3 * x + c) ≡ pair_sample d top bottom w x c
  step x c q (inl p) = kept_sample d out new (48 * n) k to (3 * x + c) put fits (omega arith) ∙ before.each x c p q
  step x c q (inr p) =
      written_sample d out new (48 * n) 48 k to (3 * (x - 16 * n) + c) (3 * x + c) put fits whole (omega (arith, p.0, p.1)) (omega (arith, p.0, p.1))
      ∙ block.each (x - 16 * n) c (omega (arith, p.0, p.1)) q
      ∙ box_same _ _ _ _ _ _ _ _ (first top j e) (second top j e) (first bottom j' e') (second bottom j' e') where
        cut : (row : List ℕ) (m here there : ℕ) → m ≡ d * 96 → here < 32 → there ≡ 32 * n + here → there < w
            → sample_at d (take m (drop from row)) (3 * clamped 32 here + c) ≡ sample_at d row (3 * clamped w there + c)
        cut row m here there f few at near =
            cut_sample d row (96 * n) 96 from m (3 * clamped 32 here + c) (3 * clamped w there + c) begins f (omega arith) (omega arith)

        first : (row : List ℕ) (m : ℕ) → m ≡ d * 96
            → sample_at d (take m (drop from row)) (3 * clamped 32 (2 * (x - 16 * n)) + c) ≡ sample_at d row (3 * clamped w (2 * x) + c)
        first row m f = cut row m (2 * (x - 16 * n)) (2 * x) f (omega (arith, p.0, p.1)) (omega (arith, p.0, p.1)) (omega (arith, p.0, p.1))

        second : (row : List ℕ) (m : ℕ) → m ≡ d * 96
            → sample_at d (take m (drop from row)) (3 * clamped 32 (2 * (x - 16 * n) + 1) + c) ≡ sample_at d row (3 * clamped w (2 * x + 1) + c)
        second row m f = cut row m (2 * (x - 16 * n) + 1) (2 * x + 1) f (omega (arith, p.0, p.1)) (omega (arith, p.0, p.1)) (omega (arith, p.0, p.1))

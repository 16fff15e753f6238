-- A halved raster, row by row.
use Rattle.std.proofs.Common.{◌≡◌, ℕ, inl, inr, ◌+◌, ◌-◌, ◌*◌, ◌/◌, ◌<◌, ◌≤◌, ◌⊎◌, List, length, take, drop, min, sym, ap, ◌∙◌, arith}
use Rattle.std.proofs.lemmas.Nat.{mul-add-lt, mul-le}
use Rattle.std.proofs.Math.Nat.{mul-le-mul_left}
use borrow.Rule.Slice.PartMut.{put_mid}
use Rattle.vt_ppm.specs.Depths.{IsDepth, sample_at, texel_length}
use Rattle.vt_box_filter.specs.Boxes.{clamped}
use Rattle.vt_mip.specs.Chains.{halved}
use Rattle.vt_box_filter.specs.HalvedRows.{IsHalvedRow}
use Rattle.vt_mip.specs.Halves.{IsHalvedRaster, raster_sample}
use Rattle.vt_box_filter.proofs.PartSamples.{cut_sample, kept_sample, written_sample, box_same}

-- a clamped column or row is one
pub clamped_below : (n i : ℕ) → 1 ≤ n → clamped n i < n
clamped_below n i some = omega arith

-- a sample of a row that is cut out of a raster
cut_row_sample : (d : ℕ) (source : List ℕ) (w r at k x c : ℕ) → at ≡ d * (3 * w * r) → k ≡ d * (3 * w) → x < w → c < 3
    → sample_at d (take k (drop at source)) (3 * x + c) ≡ raster_sample d source w x r c
cut_row_sample d source w r at k x c e f p q =
    cut_sample d source (3 * w * r) (3 * w) at k (3 * x + c) (3 * (r * w + x) + c) e f (omega arith) (omega arith)

-- below a row that is written, a raster stays as it was
kept_row : (d : ℕ) (out new : List ℕ) (w n to k x y c : ℕ) → to ≡ d * (3 * w * n) → to ≤ length out → x < w → y < n → c < 3
    → raster_sample d (put_mid to k out new) w x y c ≡ raster_sample d out w x y c
kept_row d out new w n to k x y c e fits p q r =
    kept_sample d out new (3 * w * n) k to (3 * (y * w + x) + c) e fits (omega (arith, mul-add-lt y w x n q p))

-- the row that is written
written_row : (d : ℕ) (out new : List ℕ) (w n to k x c : ℕ) → to ≡ d * (3 * w * n) → to ≤ length out → length new ≡ d * (3 * w) → x < w → c < 3
    → raster_sample d (put_mid to k out new) w x n c ≡ sample_at d new (3 * x + c)
written_row d out new w n to k x c e fits full p r =
    written_sample d out new (3 * w * n) (3 * w) k to (3 * x + c) (3 * (n * w + x) + c) e fits full (omega arith) (omega arith)

-- one row more
pub next_row : (d : ℕ) (source out new : List ℕ) (w h n at below j j' to k : ℕ) → 1 ≤ w → 1 ≤ h → n < (h + 1) / 2 → at ≡ d * (3 * w * (2 * n))
    → below ≡ d * (3 * w * min (2 * n + 1) (h - 1)) → j ≡ d * (3 * w) → j' ≡ d * (3 * w) → to ≡ d * (3 * ((w + 1) / 2) * n)
    → to ≤ length out → length new ≡ d * (3 * ((w + 1) / 2))
    → IsHalvedRaster d source w h n out
    → IsHalvedRow d (take j (drop at source)) (take j' (drop below source)) w ((w + 1) / 2) new
    → IsHalvedRaster d source w h (n + 1) (put_mid to k out new)
next_row d source out new w h n at below j j' to k wide high some e f g g' put fits full before row = record {
  each = λ x y c p q r. step x y c p r (split y n q);
} where
  split : (y n : ℕ) → y < n + 1 → (y < n) ⊎ (y ≡ n)
  split y n q = grind arith

  step : (x y c : ℕ) → x < (w + 1) / 2 → c < 3 → (y < n) ⊎ (y ≡ n)
      → raster_sample d (put_mid to k out new) ((w + 1) / 2) x y c ≡ halved (λ i j. raster_sample d source w i j c) w h x y
  step x y c p r (inl q) = kept_row d out new ((w + 1) / 2) n to k x y c put fits p q r ∙ before.each x y c p q r
  step x y c p r (inr q) = rw q (
      written_row d out new ((w + 1) / 2) n to k x c put fits full p r
      ∙ row.each x c p r
      ∙ box_same _ _ _ _ _ _ _ _ (top (2 * x)) (top (2 * x + 1)) (bottom (2 * x)) (bottom (2 * x + 1))
      ) where
        top : (i : ℕ) → sample_at d (take j (drop at source)) (3 * clamped w i + c) ≡ raster_sample d source w (clamped w i) (clamped h (2 * n)) c
        top i = cut_row_sample d source w (clamped h (2 * n)) at j (clamped w i) c
            (let s : clamped h (2 * n) ≡ 2 * n = omega arith in rw s e) g (clamped_below w i wide) r

        bottom : (i : ℕ) → sample_at d (take j' (drop below source)) (3 * clamped w i + c) ≡ raster_sample d source w (clamped w i) (clamped h (2 * n + 1)) c
        bottom i = cut_row_sample d source w (clamped h (2 * n + 1)) below j' (clamped w i) c f g' (clamped_below w i wide) r

-- a row of a raster lies within it
pub row_room : (size h n m : ℕ) → n < h → m ≡ size * h → size * n + size ≤ m
row_room size h n m low full = let more : size * (n + 1) ≤ size * h = mul-le-mul_left size (let s : n + 1 ≤ h = omega arith in s) in omega (arith, more, full)

pub texel_row_room : (d w h n r m : ℕ) → r ≡ 3 * d → m ≡ 3 * d * (w * h) → n < h → r * w * n + r * w ≤ m
texel_row_room d w h n r m e f low =
    row_room (r * w) h n m low (f ∙ (let s : 3 * d * (w * h) ≡ 3 * d * w * h = omega arith in s) ∙ ap (λ (q : ℕ). q * w * h) (sym e))

-- how many bytes a row has at most, and a raster
pub row_small : (z w : ℕ) → z ≤ 6 → w ≤ 16384 → z * w ≤ 98304
row_small z w few short = let all : z * w ≤ 6 * 16384 = mul-le z w 6 16384 few short in omega (arith, all)

pub raster_small : (d w h n : ℕ) → IsDepth d → w ≤ 16384 → h ≤ 16384 → n ≡ texel_length d * (w * h) → n ≤ 1610612736
raster_small d w h n depth wide high e =
    let area : w * h ≤ 16384 * 16384 = mul-le w h 16384 16384 wide high in
    let few : texel_length d ≤ 6 = two depth in
    let all : texel_length d * (w * h) ≤ 6 * 268435456 = mul-le (texel_length d) (w * h) 6 268435456 few (omega (arith, area)) in
    omega (arith, e, all)
  where
    two : IsDepth d → texel_length d ≤ 6
    two (inl one) = omega (arith, one)
    two (inr double) = omega (arith, double)

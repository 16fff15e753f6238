-- A raster that is halved in two parts, each of whole pairs of rows.
use Rattle.std.proofs.Common.{◌≡◌, ℕ, inl, inr, ◌+◌, ◌-◌, ◌*◌, ◌/◌, ◌<◌, ◌≤◌, List, ◌++◌, length, take, drop, sym, ap, ap₂, ◌∙◌, subst, arith}
use Rattle.std.proofs.lemmas.Bool.{cases_lt}
use Rattle.std.proofs.lemmas.List.{take-append-drop}
use Rattle.std.proofs.lemmas.Nat.{mul-add-lt}
use Rattle.vt_ppm.specs.Depths.{sample_at, texel_length}
use Rattle.vt_box_filter.specs.Boxes.{clamped}
use Rattle.vt_mip.specs.Chains.{halved}
use Rattle.vt_mip.specs.Halves.{AreHalfSizes, IsHalvedRaster, raster_sample}
use Rattle.vt_mip.proofs.Rasters.{clamped_below}
use Rattle.vt_box_filter.proofs.PartSamples.{box_same}
use Rattle.vt_ppm.proofs.SampleParts.{sample_before, sample_behind}

-- a sample of a raster is among those of so many rows
among : (w x y c rows : ℕ) → x < w → y < rows → c < 3 → 3 * (y * w + x) + c < 3 * (w * rows)
among w x y c rows p q r = omega (arith, mul-add-lt y w x rows q p)

-- and behind those of so many rows
past : (w x y c rows : ℕ) → 3 * ((rows + y) * w + x) + c ≡ 3 * (w * rows) + (3 * (y * w + x) + c)
past w x y c rows = omega arith

module _ (d w l r : ℕ) (a b p q : List ℕ) (wide : 1 ≤ w) (high : 1 ≤ r) (upper : length a ≡ d * (3 * (w * (2 * l))))
    (made : length p ≡ d * (3 * ((w + 1) / 2 * l)))
    (above : IsHalvedRaster d a w (2 * l) l p) (below : IsHalvedRaster d b w r ((r + 1) / 2) q) where
  -- the samples of the upper part
  in_upper : (i j c : ℕ) → j < 2 * l → c < 3
      → raster_sample d a w (clamped w i) (clamped (2 * l) j) c ≡ raster_sample d (a ++ b) w (clamped w i) (clamped (2 * l + r) j) c
  in_upper i j c inside few =
      ap (λ (y : ℕ). raster_sample d a w (clamped w i) y c) (let s : clamped (2 * l) j ≡ j = omega (arith, inside) in s)
      ∙ sym (sample_before d a b (3 * (w * (2 * l))) (3 * (j * w + clamped w i) + c) upper
      (among w (clamped w i) j c (2 * l) (clamped_below w i wide) inside few))
      ∙ ap (λ (y : ℕ). raster_sample d (a ++ b) w (clamped w i) y c) (let s : j ≡ clamped (2 * l + r) j = omega (arith, inside) in s)

  -- the samples of the lower part
  in_lower : (i j k c : ℕ) → k ≡ 2 * l + j → c < 3
      → raster_sample d b w (clamped w i) (clamped r j) c ≡ raster_sample d (a ++ b) w (clamped w i) (clamped (2 * l + r) k) c
  in_lower i j k c at few =
      let m = clamped r j in
      sym (sample_behind d a b (3 * (w * (2 * l))) (3 * (m * w + clamped w i) + c) upper)
      ∙ ap (sample_at d (a ++ b)) (sym (past w (clamped w i) m c (2 * l)))
      ∙ ap (λ (y : ℕ). raster_sample d (a ++ b) w (clamped w i) y c) (let s : 2 * l + clamped r j ≡ clamped (2 * l + r) k = omega (arith, at, high) in s)

  in_low : (x y c : ℕ) → x < (w + 1) / 2 → y < l → c < 3
      → raster_sample d (p ++ q) ((w + 1) / 2) x y c ≡ halved (λ i j. raster_sample d (a ++ b) w i j c) w (2 * l + r) x y
  in_low x y c inside early few =
      sample_before d p q (3 * ((w + 1) / 2 * l)) (3 * (y * ((w + 1) / 2) + x) + c) made (among ((w + 1) / 2) x y c l inside early few)
      ∙ above.each x y c inside early few
      ∙ box_same _ _ _ _ _ _ _ _ (in_upper (2 * x) (2 * y) c (omega (arith, early)) few) (in_upper (2 * x + 1) (2 * y) c (omega (arith, early)) few)
      (in_upper (2 * x) (2 * y + 1) c (omega (arith, early)) few) (in_upper (2 * x + 1) (2 * y + 1) c (omega (arith, early)) few)

  in_high : (x y c : ℕ) → x < (w + 1) / 2 → y < (r + 1) / 2 → c < 3
      → raster_sample d (p ++ q) ((w + 1) / 2) x (l + y) c ≡ halved (λ i j. raster_sample d (a ++ b) w i j c) w (2 * l + r) x (l + y)
  in_high x y c inside late few =
      ap (sample_at d (p ++ q)) (past ((w + 1) / 2) x y c l)
      ∙ sample_behind d p q (3 * ((w + 1) / 2 * l)) (3 * (y * ((w + 1) / 2) + x) + c) made
      ∙ below.each x y c inside late few
      ∙ box_same _ _ _ _ _ _ _ _ (in_lower (2 * x) (2 * y) (2 * (l + y)) c (omega arith) few) (in_lower (2 * x + 1) (2 * y) (2 * (l + y)) c (omega arith) few)
      (in_lower (2 * x) (2 * y + 1) (2 * (l + y) + 1) c (omega arith) few) (in_lower (2 * x + 1) (2 * y + 1) (2 * (l + y) + 1) c (omega arith) few)

  both : IsHalvedRaster d (a ++ b) w (2 * l + r) (l + (r + 1) / 2) (p ++ q)
  both = record {
    each = λ x y c inside early few. elim (cases_lt y l) [
      | inl low ↦ in_low x y c inside low few
      | inr past ↦
          subst (λ (k : ℕ). raster_sample d (p ++ q) ((w + 1) / 2) x k c ≡ halved (λ i j. raster_sample d (a ++ b) w i j c) w (2 * l + r) x k)
          (let s : l + (y - l) ≡ y = omega (arith, past) in s) (in_high x (y - l) c inside (omega (arith, past, early)) few)
    ];
  }

-- so many texels, as samples
samples_of : (d n len : ℕ) → len ≡ texel_length d * n → len ≡ d * (3 * n)
samples_of d n len full = full ∙ (let s : texel_length d * n ≡ d * (3 * n) = grind arith in s)

-- the halves of two parts of a raster are that of the whole
pub both_halved : (d w h t l r : ℕ) (source a b p q : List ℕ) → 1 ≤ w → 1 ≤ r → t ≡ 2 * l → r ≡ h - t → t < h → source ≡ a ++ b
    → length a ≡ texel_length d * (w * t) → length p ≡ texel_length d * ((w + 1) / 2 * ((t + 1) / 2))
    → IsHalvedRaster d a w t ((t + 1) / 2) p → IsHalvedRaster d b w r ((r + 1) / 2) q
    → IsHalvedRaster d source w h ((h + 1) / 2) (p ++ q)
both_halved d w h t l r source a b p q wide high even below inside parts upper made above under =
    let n : (t + 1) / 2 ≡ l = omega (arith, even) in
    let whole : 2 * l + r ≡ h = omega (arith, even, below, inside) in
    let rows : l + (r + 1) / 2 ≡ (h + 1) / 2 = omega (arith, even, below, inside) in
    let made' : length p ≡ d * (3 * ((w + 1) / 2 * l)) =
    samples_of d ((w + 1) / 2 * l) (length p) (made ∙ ap (λ (k : ℕ). texel_length d * ((w + 1) / 2 * k)) n) in
    let upper' : length a ≡ d * (3 * (w * (2 * l))) = samples_of d (w * (2 * l)) (length a) (upper ∙ ap (λ (k : ℕ). texel_length d * (w * k)) even) in
    let above' : IsHalvedRaster d a w (2 * l) l p =
    subst (λ (k : ℕ). IsHalvedRaster d a w k l p) even (subst (λ (k : ℕ). IsHalvedRaster d a w t k p) n above) in
    subst (λ (s : List ℕ). IsHalvedRaster d s w h ((h + 1) / 2) (p ++ q)) (sym parts)
    (subst (λ (k : ℕ). IsHalvedRaster d (a ++ b) w h k (p ++ q)) rows
    (subst (λ (k : ℕ). IsHalvedRaster d (a ++ b) w k (l + (r + 1) / 2) (p ++ q)) whole
    (both d w l r a b p q wide high upper' made' above' under)))

-- the bytes of the upper part of a raster, and the room for its half
pub upper_sizes : (d w h t l space room a p : ℕ) → AreHalfSizes d w h space room → t ≡ 2 * l → 1 ≤ l → t < h
    → a ≡ texel_length d * (w * t) → p ≡ texel_length d * ((w + 1) / 2 * l) → AreHalfSizes d w t a p
upper_sizes d w h t l space room a p all even some inside source out = record {
  depth = all.depth;
  some_columns = all.some_columns;
  few_columns = all.few_columns;
  some_rows = omega (arith, even, some);
  few_rows = omega (arith, all.few_rows, inside);
  source = source;
  out = out ∙ ap (λ (n : ℕ). texel_length d * ((w + 1) / 2 * n)) (let s : l ≡ (t + 1) / 2 = omega (arith, even) in s);
}

-- rows in two parts
rows_apart : (d w t r : ℕ) → texel_length d * (w * (t + r)) ≡ texel_length d * (w * t) + texel_length d * (w * r)
rows_apart d w t r = omega arith

-- and those of the lower part
pub lower_sizes : (d w h t l space room a p b q : ℕ) → AreHalfSizes d w h space room → t ≡ 2 * l → t < h
    → a ≡ texel_length d * (w * t) → p ≡ texel_length d * ((w + 1) / 2 * l) → b + a ≡ space → q + p ≡ room → AreHalfSizes d w (h - t) b q
lower_sizes d w h t l space room a p b q all even inside upper made source out =
    let r = h - t in
    let whole : texel_length d * (w * h) ≡ texel_length d * (w * t) + texel_length d * (w * r) =
    ap (λ (n : ℕ). texel_length d * (w * n)) (let s : h ≡ t + (h - t) = omega (arith, inside) in s) ∙ rows_apart d w t r in
    let halves : texel_length d * ((w + 1) / 2 * ((h + 1) / 2)) ≡ texel_length d * ((w + 1) / 2 * l) + texel_length d * ((w + 1) / 2 * ((r + 1) / 2)) =
    ap (λ (n : ℕ). texel_length d * ((w + 1) / 2 * n)) (let s : (h + 1) / 2 ≡ l + (h - t + 1) / 2 = omega (arith, even, inside) in s)
    ∙ rows_apart d ((w + 1) / 2) l ((r + 1) / 2) in
    record {
      depth = all.depth;
      some_columns = all.some_columns;
      few_columns = all.few_columns;
      some_rows = omega (arith, inside);
      few_rows = omega (arith, all.few_rows);
      source = omega (arith, whole, all.source, upper, source);
      out = omega (arith, halves, all.out, made, out);
    }

-- two parts of a list
pub in_parts : (n : ℕ) (xs a b : List ℕ) → a ≡ take n xs → b ≡ drop n xs → xs ≡ a ++ b
in_parts n xs a b front back = sym (ap₂ (λ (u v : List ℕ). u ++ v) front back ∙ take-append-drop n xs)

-- Rows that are halved as they come.
use Rattle.std.proofs.Common.{◌≡◌, ℕ, inl, inr, ◌+◌, ◌-◌, ◌*◌, ◌/◌, ◌%◌, ◌<◌, ◌≤◌, ◌⊎◌, List, ◌++◌, length, take, drop, sym, ap, ◌∙◌, subst, arith}
use Rattle.std.proofs.lemmas.List.{take-append-le}
use Rattle.std.proofs.lemmas.Nat.{mul-add-lt}
use Rattle.std.proofs.Math.Nat.{mul-le-mul_left}
use borrow.Rule.Slice.PartMut.{put_mid}
use Rattle.vt_ppm.specs.Depths.{sample_at, texel_length}
use Rattle.vt_ppm.specs.Files.{IsPiece}
use Rattle.vt_ppm.specs.Image.{ImageView}
use Rattle.vt_box_filter.specs.Boxes.{clamped}
use Rattle.vt_mip.specs.Chains.{halved}
use Rattle.vt_mip.specs.Halves.{IsHalvedRaster, raster_sample}
use Rattle.vt_mip.specs.TakenRows.{HalvingView, HalvesFront}
use Rattle.vt_box_filter.proofs.PartSamples.{cut_sample, kept_sample, written_sample, box_same}
use Rattle.vt_mip.proofs.Rasters.{clamped_below}

-- the rows of level 1 that are made lie within it
pub half_room : (r t c h m : ℕ) → t + c ≤ h → t % 2 ≡ 0 → m ≡ r * ((h + 1) / 2) → r * (t / 2) + r * ((c + 1) / 2) ≤ m
half_room r t c h m inside even full =
    let more : r * (t / 2 + (c + 1) / 2) ≤ r * ((h + 1) / 2) =
    mul-le-mul_left r (let s : t / 2 + (c + 1) / 2 ≤ (h + 1) / 2 = omega arith in s) in omega (arith, more, full)

-- a row is taken within the rows that come where its pair is
pair_inside : (n c h j : ℕ) → (c % 2 ≡ 0) ⊎ (2 * n + c ≡ h) → 2 * n + c ≤ h → j < 2 * ((c + 1) / 2) → clamped h (2 * n + j) ≡ 2 * n + clamped c j
pair_inside n c h j (inl even) inside low = omega arith
pair_inside n c h j (inr all) inside low = omega arith

module _ (d : ℕ) (samples rows old new : List ℕ) (w h n c at k from m : ℕ) (wide : 1 ≤ w) (some : 1 ≤ c) (inside : 2 * n + c ≤ h)
    (pairs : (c % 2 ≡ 0) ⊎ (2 * n + c ≡ h)) (piece : rows ≡ take k (drop at samples)) (begins : at ≡ d * (3 * w * (2 * n)))
    (ends : k ≡ d * (3 * w * c)) (put : from ≡ d * (3 * ((w + 1) / 2) * n)) (fits : from ≤ length old)
    (full : length new ≡ d * (3 * ((w + 1) / 2) * ((c + 1) / 2))) where
  -- a sample of the rows that come is one of the texture
  sample_there : (x y ch : ℕ) → x < w → y < c → ch < 3 → raster_sample d rows w x y ch ≡ raster_sample d samples w x (2 * n + y) ch
  sample_there x y ch p q r =
      ap (λ l. raster_sample d l w x y ch) piece
      ∙ cut_sample d samples (3 * w * (2 * n)) (3 * w * c) at k (3 * (y * w + x) + ch) (3 * ((2 * n + y) * w + x) + ch) begins ends
      (omega (arith, mul-add-lt y w x c q p)) (omega arith)

  made : (x y ch : ℕ) → x < (w + 1) / 2 → y < (c + 1) / 2 → ch < 3 → IsHalvedRaster d rows w c ((c + 1) / 2) new
      → raster_sample d (put_mid from m old new) ((w + 1) / 2) x (n + y) ch ≡ halved (λ i j. raster_sample d samples w i j ch) w h x (n + y)
  made x y ch p q r fresh =
      let v : ℕ = (w + 1) / 2 in
      written_sample d old new (3 * v * n) (3 * v * ((c + 1) / 2)) m from (3 * (y * v + x) + ch) (3 * ((n + y) * v + x) + ch) put fits full
      (omega (arith, mul-add-lt y v x ((c + 1) / 2) q p)) (omega arith)
      ∙ fresh.each x y ch p q r
      ∙ box_same _ _ _ _ _ _ _ _ (there (2 * x) (2 * y) (2 * (n + y)) (omega arith) (omega arith))
      (there (2 * x + 1) (2 * y) (2 * (n + y)) (omega arith) (omega arith))
      (there (2 * x) (2 * y + 1) (2 * (n + y) + 1) (omega arith) (omega arith))
      (there (2 * x + 1) (2 * y + 1) (2 * (n + y) + 1) (omega arith) (omega arith)) where
        there : (i j j' : ℕ) → j < 2 * ((c + 1) / 2) → j' ≡ 2 * n + j
            → raster_sample d rows w (clamped w i) (clamped c j) ch ≡ raster_sample d samples w (clamped w i) (clamped h j') ch
        there i j j' low e =
            sample_there (clamped w i) (clamped c j) ch (clamped_below w i wide) (clamped_below c j some) r
            ∙ ap (λ (u : ℕ). raster_sample d samples w (clamped w i) u ch)
            (sym (pair_inside n c h j pairs inside low) ∙ ap (clamped h) (sym e))

  split : (y : ℕ) → y < (2 * n + c + 1) / 2 → (y < n) ⊎ ((n ≤ y) × (y - n < (c + 1) / 2))
  split y low = grind arith

  -- the rows of level 1 that were made and those that are made now
  pub more_rows : IsHalvedRaster d samples w h n old → IsHalvedRaster d rows w c ((c + 1) / 2) new
      → IsHalvedRaster d samples w h ((2 * n + c + 1) / 2) (put_mid from m old new)
  more_rows before fresh = record { each = λ x y ch p q r. each x y ch p r (split y q) } where
    each : (x y ch : ℕ) → x < (w + 1) / 2 → ch < 3 → (y < n) ⊎ ((n ≤ y) × (y - n < (c + 1) / 2))
        → raster_sample d (put_mid from m old new) ((w + 1) / 2) x y ch ≡ halved (λ i j. raster_sample d samples w i j ch) w h x y
    each x y ch p r (inl q) =
        kept_sample d old new (3 * ((w + 1) / 2) * n) m from (3 * (y * ((w + 1) / 2) + x) + ch) put fits
        (omega (arith, mul-add-lt y ((w + 1) / 2) x n q p))
        ∙ before.each x y ch p q r
    each x y ch p r (inr q) =
        let same : n + (y - n) ≡ y = omega (arith, q.0) in
        subst (λ (u : ℕ). raster_sample d (put_mid from m old new) ((w + 1) / 2) x u ch
        ≡ halved (λ i j. raster_sample d samples w i j ch) w h x u) same (made x (y - n) ch p q.1 r fresh)

-- the same by how many rows were taken
pub rows_taken : (d w h t c z from m : ℕ) (source rows old new : List ℕ) → 1 ≤ w → 1 ≤ c → t + c ≤ h
    → t % 2 ≡ 0 → (c % 2 ≡ 0) ⊎ (t + c ≡ h) → length rows ≡ texel_length d * (w * c) → z ≡ texel_length d
    → from ≡ z * ((w + 1) / 2) * (t / 2) → from ≤ length old → length new ≡ z * ((w + 1) / 2) * ((c + 1) / 2)
    → IsHalvedRaster d rows w c ((c + 1) / 2) new
    → IsPiece source (texel_length d * (w * t)) rows → IsHalvedRaster d source w h ((t + 1) / 2) old
    → IsHalvedRaster d source w h ((t + c + 1) / 2) (put_mid from m old new)
rows_taken d w h t c z from m source rows old new wide some inside even pairs whole size put fits full fresh piece before =
    let n : ℕ = t / 2 in
    let twice : t ≡ 2 * n = omega arith in
    let placed : from ≡ d * (3 * ((w + 1) / 2) * n) = put ∙ ap (λ (q : ℕ). q * ((w + 1) / 2) * n) size ∙ omega arith in
    let filled : length new ≡ d * (3 * ((w + 1) / 2) * ((c + 1) / 2)) = full ∙ ap (λ (q : ℕ). q * ((w + 1) / 2) * ((c + 1) / 2)) size ∙ omega arith in
    let begins : texel_length d * (w * t) ≡ d * (3 * w * (2 * n)) = ap (λ (q : ℕ). texel_length d * (w * q)) twice ∙ omega arith in
    let ends : length rows ≡ d * (3 * w * c) = whole ∙ omega arith in
    let made : IsHalvedRaster d source w h ((2 * n + c + 1) / 2) (put_mid from m old new) =
    more_rows d source rows old new w h n c (texel_length d * (w * t)) (length rows) from m wide some
    (omega arith) (pairs_there pairs) piece.same begins ends placed fits filled
    (let e : (t + 1) / 2 ≡ n = omega arith in subst (λ (q : ℕ). IsHalvedRaster d source w h q old) e before) fresh in
    (let e : (2 * n + c + 1) / 2 ≡ (t + c + 1) / 2 = omega arith in
    subst (λ (q : ℕ). IsHalvedRaster d source w h q (put_mid from m old new)) e made) where
      pairs_there : (c % 2 ≡ 0) ⊎ (t + c ≡ h) → (c % 2 ≡ 0) ⊎ (2 * (t / 2) + c ≡ h)
      pairs_there (inl e) = inl e
      pairs_there (inr e) = inr (omega arith)

-- the rows of level 1 that are made stay so where others are put behind them
pub longer_raster : (d w h n : ℕ) (source old rest new : List ℕ) → texel_length d * ((w + 1) / 2 * n) ≤ length old → new ≡ old ++ rest
    → IsHalvedRaster d source w h n old → IsHalvedRaster d source w h n new
longer_raster d w h n source old rest new made is before = record { each = λ x y c p q r. sym (same x y c p q r) ∙ before.each x y c p q r } where
  v : ℕ
  v = (w + 1) / 2

  m : ℕ
  m = texel_length d * (v * n)

  front : take m (drop 0 new) ≡ take m (drop 0 old)
  front = ap (take m) is ∙ take-append-le m old rest made

  same : (x y c : ℕ) → x < (w + 1) / 2 → y < n → c < 3 → raster_sample d old ((w + 1) / 2) x y c ≡ raster_sample d new ((w + 1) / 2) x y c
  same x y c p q r =
      let i : ℕ = 3 * (y * v + x) + c in
      let low : i < 3 * v * n = omega (arith, mul-add-lt y v x n q p) in
      sym (cut_sample d old 0 (3 * v * n) 0 m i i (omega arith) (omega arith) low (omega arith))
      ∙ ap (λ l. sample_at d l i) (sym front)
      ∙ cut_sample d new 0 (3 * v * n) 0 m i i (omega arith) (omega arith) low (omega arith)

-- fewer rows of a texture make no more of level 1
pub fewer_rows : (d w t h : ℕ) → t ≤ h → texel_length d * ((w + 1) / 2 * ((t + 1) / 2)) ≤ texel_length d * ((w + 1) / 2 * ((h + 1) / 2))
fewer_rows d w t h le =
    mul-le-mul_left (texel_length d) (mul-le-mul_left ((w + 1) / 2) (let s : (t + 1) / 2 ≤ (h + 1) / 2 = omega arith in s))

-- what callers see of it
pub front_grows : (p : ImageView) (v u : HalvingView) (c : ℕ) (rows : List ℕ)
    → u.depth ≡ v.depth → u.width ≡ v.width → u.height ≡ v.height → u.taken ≡ v.taken + c
    → ((source : List ℕ) → IsPiece source (texel_length v.depth * (v.width * v.taken)) rows
    → IsHalvedRaster v.depth source v.width v.height ((v.taken + 1) / 2) v.samples
    → IsHalvedRaster v.depth source v.width v.height ((v.taken + c + 1) / 2) u.samples)
    → HalvesFront p v → IsPiece p.samples (texel_length p.depth * (p.width * v.taken)) rows → HalvesFront p u
front_grows p v u c rows ed ew eh et grows before piece =
    let at : texel_length p.depth * (p.width * v.taken) ≡ texel_length v.depth * (v.width * v.taken) =
    ap (λ (q : ℕ). texel_length q * (p.width * v.taken)) (sym before.depth)
    ∙ ap (λ (q : ℕ). texel_length v.depth * (q * v.taken)) (sym before.columns) in
    record {
      depth = ed ∙ before.depth;
      columns = ew ∙ before.columns;
      rows = eh ∙ before.rows;
      raster = rw (ed, ew, eh, et) (grows p.samples (subst (λ (q : ℕ). IsPiece p.samples q rows) at piece) before.raster);
    }

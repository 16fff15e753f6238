-- The words of a halved picture, and the levels of a chain by words.
use Rattle.std.proofs.Common.{◌≡◌, ℕ, suc, inl, inr, ◌+◌, ◌*◌, ◌/◌, ◌<◌, ◌≤◌, length, refl, sym, ap, ◌∙◌, arith}
use Rattle.std.specs.Prelude.{take, drop}
use Rattle.std.proofs.lemmas.List.{length-take-le, length-drop}
use Rattle.vt_ppm.specs.Sides.{side}
use Rattle.vt_ppm.specs.Depths.{IsDepth, AreBytes, sample_base, sample_at, word_of, red_of, green_of, blue_of, word_bytes}
use Rattle.vt_ppm.proofs.TexelWords.{sample_small, texel_words}
use Rattle.vt_ppm.specs.Image.{ImageView, IsLawfulImage, texel_of}
use Rattle.vt_box_filter.specs.Boxes.{clamped}
use Rattle.vt_mip.specs.Chains.{halved, halved_word, chain, IsTexelRow, IsTexelRaster}
use Rattle.vt_mip.specs.Halves.{IsHalf, raster_sample}
use Rattle.vt_mip.specs.Levels.{IsLevel}
use Rattle.vt_box_filter.proofs.PartSamples.{box_same, cut_texel}
use Rattle.vt_mip.proofs.Rasters.{clamped_below}

-- level 0 is the texture
pub chain-zero : (d : ℕ) (t : ℕ → ℕ → ℕ) (w h x y : ℕ) → chain d t w h 0 x y ≡ t x y
unfolding chain
chain-zero d t w h x y = refl

-- each next level is the one before it halved
pub chain-suc : (d : ℕ) (t : ℕ → ℕ → ℕ) (w h k x y : ℕ) → chain d t w h (suc k) x y ≡ halved_word d (chain d t w h k) (side w k) (side h k) x y
unfolding chain
chain-suc d t w h k x y = refl

-- the samples of a word are those that it was made of
pub red-word : (d r g b : ℕ) → IsDepth d → r < sample_base d → g < sample_base d → b < sample_base d → red_of d (word_of d r g b) ≡ r
red-word d r g b (inl one) = rw one (narrow r g b) where
  narrow : (r g b : ℕ) → r < 256 → g < 256 → b < 256 → red_of 1 (word_of 1 r g b) ≡ r
  narrow r g b p q s = omega (arith, p, q, s)
red-word d r g b (inr two) = rw two (wide r g b) where
  wide : (r g b : ℕ) → r < 65536 → g < 65536 → b < 65536 → red_of 2 (word_of 2 r g b) ≡ r
  wide r g b p q s = omega (arith, p, q, s)

pub green-word : (d r g b : ℕ) → IsDepth d → r < sample_base d → g < sample_base d → b < sample_base d → green_of d (word_of d r g b) ≡ g
green-word d r g b (inl one) = rw one (narrow r g b) where
  narrow : (r g b : ℕ) → r < 256 → g < 256 → b < 256 → green_of 1 (word_of 1 r g b) ≡ g
  narrow r g b p q s = omega (arith, p, q, s)
green-word d r g b (inr two) = rw two (wide r g b) where
  wide : (r g b : ℕ) → r < 65536 → g < 65536 → b < 65536 → green_of 2 (word_of 2 r g b) ≡ g
  wide r g b p q s = omega (arith, p, q, s)

pub blue-word : (d r g b : ℕ) → IsDepth d → r < sample_base d → g < sample_base d → b < sample_base d → blue_of d (word_of d r g b) ≡ b
blue-word d r g b (inl one) = rw one (narrow r g b) where
  narrow : (r g b : ℕ) → r < 256 → g < 256 → b < 256 → blue_of 1 (word_of 1 r g b) ≡ b
  narrow r g b p q s = omega (arith, p, q, s)
blue-word d r g b (inr two) = rw two (wide r g b) where
  wide : (r g b : ℕ) → r < 65536 → g < 65536 → b < 65536 → blue_of 2 (word_of 2 r g b) ≡ b
  wide r g b p q s = omega (arith, p, q, s)

pub word_same : (d r g b r' g' b' : ℕ) → r ≡ r' → g ≡ g' → b ≡ b' → word_of d r g b ≡ word_of d r' g' b'
word_same d r g b r' g' b' p q s = ap (λ (n : ℕ). word_of d n g b) p ∙ ap (λ (n : ℕ). word_of d r' n b) q ∙ ap (λ (n : ℕ). word_of d r' g' n) s

-- the samples of a picture are those of its words
module _ (p : ImageView) (depth : IsDepth p.depth) (bytes : AreBytes p.samples) (x y : ℕ) where
  at : ℕ
  at = 3 * (y * p.width + x)

  small : (i : ℕ) → sample_at p.depth p.samples i < sample_base p.depth
  small i = sample_small p.depth p.samples i depth bytes

  pub red-texel : raster_sample p.depth p.samples p.width x y 0 ≡ red_of p.depth (texel_of p x y)
  unfolding at
  red-texel = ap (sample_at p.depth p.samples) (omega arith) ∙ sym (red-word p.depth (sample_at p.depth p.samples at)
      (sample_at p.depth p.samples (at + 1)) (sample_at p.depth p.samples (at + 2)) depth (small at) (small (at + 1)) (small (at + 2)))

  pub green-texel : raster_sample p.depth p.samples p.width x y 1 ≡ green_of p.depth (texel_of p x y)
  unfolding at
  green-texel = sym (green-word p.depth (sample_at p.depth p.samples at) (sample_at p.depth p.samples (at + 1))
      (sample_at p.depth p.samples (at + 2)) depth (small at) (small (at + 1)) (small (at + 2)))

  pub blue-texel : raster_sample p.depth p.samples p.width x y 2 ≡ blue_of p.depth (texel_of p x y)
  unfolding at
  blue-texel = sym (blue-word p.depth (sample_at p.depth p.samples at) (sample_at p.depth p.samples (at + 1))
      (sample_at p.depth p.samples (at + 2)) depth (small at) (small (at + 1)) (small (at + 2)))

-- halves of equal samples
halved_same : (s s' : ℕ → ℕ → ℕ) (w h x y : ℕ) → 1 ≤ w → 1 ≤ h → ((i j : ℕ) → i < w → j < h → s i j ≡ s' i j) → halved s w h x y ≡ halved s' w h x y
halved_same s s' w h x y wide high same =
    box_same _ _ _ _ _ _ _ _ (at (2 * x) (2 * y)) (at (2 * x + 1) (2 * y)) (at (2 * x) (2 * y + 1)) (at (2 * x + 1) (2 * y + 1)) where
      at : (i j : ℕ) → s (clamped w i) (clamped h j) ≡ s' (clamped w i) (clamped h j)
      at i j = same (clamped w i) (clamped h j) (clamped_below w i wide) (clamped_below h j high)

-- halves of equal words
pub halved_word_same : (d : ℕ) (t t' : ℕ → ℕ → ℕ) (w h x y : ℕ) → 1 ≤ w → 1 ≤ h → ((i j : ℕ) → i < w → j < h → t i j ≡ t' i j)
    → halved_word d t w h x y ≡ halved_word d t' w h x y
unfolding halved_word
halved_word_same d t t' w h x y wide high same = word_same d _ _ _ _ _ _
    (halved_same (λ i j. red_of d (t i j)) (λ i j. red_of d (t' i j)) w h x y wide high (λ i j p q. ap (red_of d) (same i j p q)))
    (halved_same (λ i j. green_of d (t i j)) (λ i j. green_of d (t' i j)) w h x y wide high (λ i j p q. ap (green_of d) (same i j p q)))
    (halved_same (λ i j. blue_of d (t i j)) (λ i j. blue_of d (t' i j)) w h x y wide high (λ i j p q. ap (blue_of d) (same i j p q)))

-- the words of an image that is the half of another one
texel-half : (p q : ImageView) (x y : ℕ) → AreBytes p.samples → IsDepth p.depth → 1 ≤ p.width → 1 ≤ p.height → IsHalf p q
    → x < q.width → y < q.height → texel_of q x y ≡ halved_word p.depth (texel_of p) p.width p.height x y
unfolding halved_word
texel-half p q x y bytes depth columns rows half wide high =
    ap (λ (d : ℕ). word_of d (sample_at d q.samples (3 * (y * q.width + x))) (sample_at d q.samples (3 * (y * q.width + x) + 1))
    (sample_at d q.samples (3 * (y * q.width + x) + 2))) half.depth
    ∙ word_same p.depth _ _ _ _ _ _
    (ap (sample_at p.depth q.samples) (let s : 3 * (y * q.width + x) ≡ 3 * (y * q.width + x) + 0 = omega arith in s)
    ∙ sample 0 (omega arith) ∙ same 0 (λ i j. red_of p.depth (texel_of p i j)) (λ i j. red-texel p depth bytes i j))
    (sample 1 (omega arith) ∙ same 1 (λ i j. green_of p.depth (texel_of p i j)) (λ i j. green-texel p depth bytes i j))
    (sample 2 (omega arith) ∙ same 2 (λ i j. blue_of p.depth (texel_of p i j)) (λ i j. blue-texel p depth bytes i j)) where
      sample : (c : ℕ) → c < 3 → raster_sample p.depth q.samples q.width x y c ≡ halved (λ i j. raster_sample p.depth p.samples p.width i j c) p.width
          p.height x y
      sample c few = rw half.columns (half.raster.each x y c (let s : x < (p.width + 1) / 2 = omega (arith, half.columns) in s) high few)

      same : (c : ℕ) (t : ℕ → ℕ → ℕ) → ((i j : ℕ) → raster_sample p.depth p.samples p.width i j c ≡ t i j)
          → halved (λ i j. raster_sample p.depth p.samples p.width i j c) p.width p.height x y ≡ halved t p.width p.height x y
      same c t is = halved_same (λ i j. raster_sample p.depth p.samples p.width i j c) t p.width p.height x y
          columns rows (λ i j u v. is i j)

-- level 0 of a picture's chain is the picture
pub first_level : (base : ImageView) → IsLawfulImage base → IsLevel base 0 base
first_level base lawful = record {
  depth = refl;
  columns = refl;
  rows = refl;
  texels = λ x y p q. sym (chain-zero base.depth (texel_of base) base.width base.height x y);
  lawful = lawful;
}

-- an image that has the words of a level, halved, is the next level
half_level : (base : ImageView) (k : ℕ) (p q : ImageView) → IsDepth p.depth → 1 ≤ p.width → 1 ≤ p.height → p.depth ≡ base.depth
    → p.width ≡ side base.width k → p.height ≡ side base.height k
    → ((x y : ℕ) → x < p.width → y < p.height → texel_of p x y ≡ chain base.depth (texel_of base) base.width base.height k x y)
    → AreBytes p.samples → IsHalf p q → IsLawfulImage q → IsLevel base (suc k) q
half_level base k p q depth some_columns some_rows deep columns rows same bytes half lawful =
    let before : ℕ → ℕ → ℕ = chain base.depth (texel_of base) base.width base.height k in record {
      depth = half.depth ∙ deep;
      columns = half.columns ∙ ap (λ (n : ℕ). (n + 1) / 2) columns;
      rows = half.rows ∙ ap (λ (n : ℕ). (n + 1) / 2) rows;
      texels = λ x y wide high. texel-half p q x y bytes depth some_columns some_rows half wide high
          ∙ halved_word_same p.depth (texel_of p) before p.width p.height x y some_columns some_rows same
          ∙ ap (λ (n : ℕ). halved_word n before p.width p.height x y) deep
          ∙ ap (λ (n : ℕ). halved_word base.depth before n p.height x y) columns
          ∙ ap (λ (n : ℕ). halved_word base.depth before (side base.width k) n x y) rows
          ∙ sym (chain-suc base.depth (texel_of base) base.width base.height k x y);
      lawful = lawful;
    }

-- a level halved is the next level
pub next_level : (base : ImageView) (k : ℕ) (p q : ImageView) → IsLevel base k p → AreBytes p.samples → IsHalf p q
    → IsLawfulImage q → IsLevel base (suc k) q
next_level base k p q level bytes half lawful =
    half_level base k p q level.lawful.depth level.lawful.some_columns level.lawful.some_rows level.depth level.columns level.rows level.texels
    bytes half lawful

-- a texture halved is level 1
pub half_is_next : (base q : ImageView) → IsDepth base.depth → 1 ≤ base.width → 1 ≤ base.height → AreBytes base.samples → IsHalf base q
    → IsLawfulImage q → IsLevel base 1 q
half_is_next base q depth columns rows bytes half lawful =
    half_level base 0 base q depth columns rows refl refl refl
    (λ x y p r. sym (chain-zero base.depth (texel_of base) base.width base.height x y)) bytes half lawful

-- the bytes of a level's row hold the chain's words
pub texel_row : (base : ImageView) (k : ℕ) (p : ImageView) (y n m : ℕ) → IsLevel base k p → AreBytes p.samples → y < p.height
    → n ≡ 3 * p.depth * p.width * y → m ≡ 3 * p.depth * p.width → n + m ≤ length p.samples
    → IsTexelRow p.depth (λ x. chain base.depth (texel_of base) base.width base.height k x y) (side base.width k) (take m (drop n p.samples))
texel_row base k p y n m level bytes high e f room = record {
  full = length-take-le m (drop n p.samples) (omega (arith, length-drop n p.samples)) ∙ f ∙ ap (λ (w : ℕ). 3 * p.depth * w) level.columns;
  each = λ x wide. cut_texel p.depth p.samples (y * p.width) p.width n m x (y * p.width + x) (omega (arith, e)) f (inside x wide) (omega arith)
      ∙ sym (texel_words p.depth p.samples (y * p.width + x) level.lawful.depth bytes)
      ∙ ap (word_bytes p.depth) (level.texels x y (inside x wide) high);
} where
  inside : (x : ℕ) → x < side base.width k → x < p.width
  inside x wide = omega (arith, level.columns)

-- the bytes of a level hold the chain's words
pub texel_raster : (base : ImageView) (k : ℕ) (p : ImageView) → IsLevel base k p → AreBytes p.samples
    → IsTexelRaster p.depth (chain base.depth (texel_of base) base.width base.height k) (side base.width k) (side base.height k) p.samples
texel_raster base k p level bytes = rw (← level.columns, ← level.rows) (record {
  full = level.lawful.full;
  each = λ x y wide high. sym (texel_words p.depth p.samples (y * p.width + x) level.lawful.depth bytes) ∙ ap (word_bytes p.depth) (level.texels x y wide high);
})

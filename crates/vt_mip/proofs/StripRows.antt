-- The rows of a level that are made of rows of the texture: their words.
use Rattle.std.proofs.Common.{◌≡◌, ℕ, suc, ◌+◌, ◌*◌, ◌/◌, ◌<◌, ◌≤◌, List, Option, Some, None, Ok, Err, length, take, drop, refl, sym, ap, ◌∙◌, subst, arith}
use Rattle.std.specs.Prelude.{IfSome, OnOk, Result}
use Rattle.vt_ppm.specs.Depths.{IsDepth, AreBytes, sample_at, sample_base, texel_length, word_at, word_bytes, red_of, green_of, blue_of}
use Rattle.vt_ppm.specs.Sides.{side}
use Rattle.vt_ppm.proofs.Levels.{side_at_least}
use Rattle.vt_ppm.proofs.TexelWords.{sample_small, texel_words}
use Rattle.vt_ppm.specs.declared.header.Header.{Header}
use Rattle.vt_ppm.specs.Format.{depth_of}
use Rattle.vt_ppm.specs.Image.{texel_of}
use Rattle.vt_ppm.specs.Strips.{texture_of, sample_rows}
use Rattle.vt_ppm.proofs.SampleValues.{depth_is}
use Rattle.vt_box_filter.specs.Boxes.{clamped}
use Rattle.vt_mip.specs.Chains.{halved, halved_word, IsTexelRow}
use Rattle.vt_box_filter.specs.HalvedRows.{IsHalvedRow}
use Rattle.vt_mip.specs.StripChains.{StripChainView, HasWords, texture_texel, level_row_length}
use Rattle.vt_box_filter.proofs.PartSamples.{box_same, cut_sample}
use Rattle.vt_mip.proofs.Rasters.{clamped_below}
use Rattle.vt_mip.proofs.Words.{chain-zero, chain-suc, word_same, red-word, green-word, blue-word}

pub side_next : (w k : ℕ) → side w (k + 1) ≡ (side w k + 1) / 2
side_next w k = let e : k + 1 ≡ suc k = omega arith in ap (side w) e

-- the samples of bytes are those of their words
module _ (d : ℕ) (xs : List ℕ) (i : ℕ) (depth : IsDepth d) (bytes : AreBytes xs) where
  small : (j : ℕ) → sample_at d xs j < sample_base d
  small j = sample_small d xs j depth bytes

  red_at : sample_at d xs (3 * i) ≡ red_of d (word_at d xs i)
  red_at = sym (red-word d (sample_at d xs (3 * i)) (sample_at d xs (3 * i + 1)) (sample_at d xs (3 * i + 2)) depth
      (small (3 * i)) (small (3 * i + 1)) (small (3 * i + 2)))

  green_at : sample_at d xs (3 * i + 1) ≡ green_of d (word_at d xs i)
  green_at = sym (green-word d (sample_at d xs (3 * i)) (sample_at d xs (3 * i + 1)) (sample_at d xs (3 * i + 2)) depth
      (small (3 * i)) (small (3 * i + 1)) (small (3 * i + 2)))

  blue_at : sample_at d xs (3 * i + 2) ≡ blue_of d (word_at d xs i)
  blue_at = sym (blue-word d (sample_at d xs (3 * i)) (sample_at d xs (3 * i + 1)) (sample_at d xs (3 * i + 2)) depth
      (small (3 * i)) (small (3 * i + 1)) (small (3 * i + 2)))

-- the half of two rows has the box filter of their words
module _ (d : ℕ) (t : ℕ → ℕ → ℕ) (w h y : ℕ) (top bottom out : List ℕ) (depth : IsDepth d) (wide : 1 ≤ w) (above_bytes : AreBytes top)
    (below_bytes : AreBytes bottom) (above : HasWords d (λ x. t x (clamped h (2 * y))) w top)
    (below : HasWords d (λ x. t x (clamped h (2 * y + 1))) w bottom) (half : IsHalvedRow d top bottom w ((w + 1) / 2) out) where
  -- a channel of a word
  channel : (c : ℕ) (of : ℕ → ℕ) → c < 3
      → ((xs : List ℕ) (i : ℕ) → AreBytes xs → sample_at d xs (3 * i + c) ≡ of (word_at d xs i))
      → (x : ℕ) → x < (w + 1) / 2 → sample_at d out (3 * x + c) ≡ halved (λ i j. of (t i j)) w h x y
  channel c of few is x inside =
      half.each x c inside few
      ∙ box_same _ _ _ _ _ _ _ _ (upper (2 * x)) (upper (2 * x + 1)) (lower (2 * x)) (lower (2 * x + 1)) where
        upper : (i : ℕ) → sample_at d top (3 * clamped w i + c) ≡ of (t (clamped w i) (clamped h (2 * y)))
        upper i = is top (clamped w i) above_bytes ∙ ap of (above.each (clamped w i) (clamped_below w i wide))

        lower : (i : ℕ) → sample_at d bottom (3 * clamped w i + c) ≡ of (t (clamped w i) (clamped h (2 * y + 1)))
        lower i = is bottom (clamped w i) below_bytes ∙ ap of (below.each (clamped w i) (clamped_below w i wide))

  pub half_words : HasWords d (λ x. halved_word d t w h x y) ((w + 1) / 2) out
  unfolding halved_word
  half_words = record {
    each = λ x inside. word_same d _ _ _ _ _ _
        (moved (3 * x) (3 * x + 0) (omega arith)
        ∙ channel 0 (red_of d) (omega arith) (λ xs i b. ap (sample_at d xs) (let e : 3 * i + 0 ≡ 3 * i = omega arith in e) ∙ red_at d xs i depth b) x inside)
        (channel 1 (green_of d) (omega arith) (λ xs i b. green_at d xs i depth b) x inside)
        (channel 2 (blue_of d) (omega arith) (λ xs i b. blue_at d xs i depth b) x inside);
  } where
    moved : (i j : ℕ) → i ≡ j → sample_at d out i ≡ sample_at d out j
    moved i j e = ap (sample_at d out) e

-- a texel of a row that is cut out of samples
row_word : (d w y x : ℕ) (samples : List ℕ) → x < w
    → word_at d (take (1 * (3 * d * w)) (drop (y * (3 * d * w)) samples)) x ≡ word_at d samples (y * w + x)
row_word d w y x samples p =
    word_same d _ _ _ _ _ _
    (ap (sample_at d (take (1 * (3 * d * w)) (drop (y * (3 * d * w)) samples))) (let s : 3 * x ≡ 3 * x + 0 = omega arith in s)
    ∙ part 0 (omega arith) ∙ ap (sample_at d samples) (let s : 3 * (y * w + x) + 0 ≡ 3 * (y * w + x) = omega arith in s))
    (part 1 (omega arith)) (part 2 (omega arith)) where
      part : (c : ℕ) → c < 3
          → sample_at d (take (1 * (3 * d * w)) (drop (y * (3 * d * w)) samples)) (3 * x + c) ≡ sample_at d samples (3 * (y * w + x) + c)
      part c q =
          cut_sample d samples (3 * w * y) (3 * w) (y * (3 * d * w)) (1 * (3 * d * w)) (3 * x + c) (3 * (y * w + x) + c)
          (omega arith) (omega arith) (omega arith) (omega arith)

-- a row of the texture has its words
pub first_words : (known : Option (List ℕ)) (h : Header) (level y : ℕ) (out : List ℕ) → level ≡ 0
    → IfSome known (λ b. out ≡ sample_rows h b y 1)
    → (b : List ℕ) → known ≡ Some b → HasWords (depth_of h.maximum) (λ x. texture_texel h b level x y) (side h.width level) out
first_words known h level y out none rows b e =
    let d : ℕ = depth_of h.maximum in
    let row : out ≡ sample_rows h b y 1 = subst (λ (t : Option (List ℕ)). IfSome t (λ b. out ≡ sample_rows h b y 1)) e rows in
    rw none (record {
      each = λ x inside. ap (λ l. word_at d l x) row ∙ row_word d h.width y x (texture_of h b).samples inside
          ∙ sym (chain-zero d (texel_of (texture_of h b)) h.width h.height x y);
    })

-- a row of the next level has its words, where it is the half of two rows or of one that is the last
next_words : (h : Header) (b : List ℕ) (k y : ℕ) (top bottom out : List ℕ) → IsDepth (depth_of h.maximum) → 1 ≤ h.width
    → AreBytes top → AreBytes bottom
    → HasWords (depth_of h.maximum) (λ x. texture_texel h b k x (clamped (side h.height k) (2 * y))) (side h.width k) top
    → HasWords (depth_of h.maximum) (λ x. texture_texel h b k x (clamped (side h.height k) (2 * y + 1))) (side h.width k) bottom
    → IsHalvedRow (depth_of h.maximum) top bottom (side h.width k) ((side h.width k + 1) / 2) out
    → HasWords (depth_of h.maximum) (λ x. texture_texel h b (suc k) x y) (side h.width (suc k)) out
next_words h b k y top bottom out depth wide top_bytes bottom_bytes above below half =
    let d : ℕ = depth_of h.maximum in
    let t : ℕ → ℕ → ℕ = texture_texel h b k in
    let words = half_words d t (side h.width k) (side h.height k) y top bottom out depth (side_at_least h.width k wide) top_bytes bottom_bytes
    above below half in
    record { each = λ x inside. words.each x inside ∙ sym (chain-suc d (texel_of (texture_of h b)) h.width h.height k x y) }

place_same : (h : Header) (b : List ℕ) (k : ℕ) (row : List ℕ) (i j : ℕ) → i ≡ j
    → HasWords (depth_of h.maximum) (λ x. texture_texel h b k x i) (side h.width k) row
    → HasWords (depth_of h.maximum) (λ x. texture_texel h b k x j) (side h.width k) row
place_same h b k row i j e words =
    subst (λ (n : ℕ). HasWords (depth_of h.maximum) (λ x. texture_texel h b k x n) (side h.width k) row) e words

-- the same for a level that is not 0, by two rows of the level below
pub two_rows : (known known' : Option (List ℕ)) (h h' : Header) (d w k level y : ℕ) (top bottom out : List ℕ) → known' ≡ known → h' ≡ h
    → level ≡ suc k → d ≡ depth_of h.maximum → w ≡ side h.width k → IsDepth d → 1 ≤ h.width → 2 * y + 1 < side h.height k
    → AreBytes top → AreBytes bottom
    → ((b : List ℕ) → known ≡ Some b → HasWords (depth_of h.maximum) (λ x. texture_texel h b k x (2 * y)) (side h.width k) top)
    → ((b : List ℕ) → known' ≡ Some b → HasWords (depth_of h'.maximum) (λ x. texture_texel h' b k x (2 * y + 1)) (side h'.width k) bottom)
    → IsHalvedRow d top bottom w ((w + 1) / 2) out
    → (b : List ℕ) → known ≡ Some b → HasWords (depth_of h.maximum) (λ x. texture_texel h b level x y) (side h.width level) out
two_rows known known' h h' d w k level y top bottom out et eh el ed ew depth wide inside top_bytes bottom_bytes above below half b e =
    let lower = subst (λ (g : Header). HasWords (depth_of g.maximum) (λ x. texture_texel g b k x (2 * y + 1)) (side g.width k) bottom) eh
    (below b (et ∙ e)) in
    let Half : ℕ → ℕ → Type 0 = λ m n. IsHalvedRow m top bottom n ((n + 1) / 2) out in
    rw el (next_words h b k y top bottom out (subst IsDepth ed depth) wide top_bytes bottom_bytes
    (place_same h b k top (2 * y) (clamped (side h.height k) (2 * y)) (omega arith) (above b e))
    (place_same h b k bottom (2 * y + 1) (clamped (side h.height k) (2 * y + 1)) (omega arith) lower)
    (subst (λ (n : ℕ). Half (depth_of h.maximum) n) ew (subst (λ (m : ℕ). Half m w) ed half)))

-- and by its last row
pub one_row : (known : Option (List ℕ)) (h : Header) (d w k level y : ℕ) (top out : List ℕ)
    → level ≡ suc k → d ≡ depth_of h.maximum → w ≡ side h.width k → IsDepth d → 1 ≤ h.width → 2 * y + 1 ≡ side h.height k
    → AreBytes top
    → ((b : List ℕ) → known ≡ Some b → HasWords (depth_of h.maximum) (λ x. texture_texel h b k x (2 * y)) (side h.width k) top)
    → IsHalvedRow d top top w ((w + 1) / 2) out
    → (b : List ℕ) → known ≡ Some b → HasWords (depth_of h.maximum) (λ x. texture_texel h b level x y) (side h.width level) out
one_row known h d w k level y top out el ed ew depth wide last bytes above half b e =
    let Half : ℕ → ℕ → Type 0 = λ m n. IsHalvedRow m top top n ((n + 1) / 2) out in
    rw el (next_words h b k y top top out (subst IsDepth ed depth) wide bytes bytes
    (place_same h b k top (2 * y) (clamped (side h.height k) (2 * y)) (omega arith) (above b e))
    (place_same h b k top (2 * y) (clamped (side h.height k) (2 * y + 1)) (omega arith) (above b e))
    (subst (λ (n : ℕ). Half (depth_of h.maximum) n) ew (subst (λ (m : ℕ). Half m w) ed half)))

-- the bytes of a row with these words
pub words_row : (d : ℕ) (word : ℕ → ℕ) (columns : ℕ) (out : List ℕ) → IsDepth d → AreBytes out → length out ≡ texel_length d * columns
    → HasWords d word columns out → IsTexelRow d word columns out
words_row d word columns out depth bytes full words = record {
  full = full;
  each = λ x inside. sym (texel_words d out x depth bytes) ∙ ap (word_bytes d) (words.each x inside);
}

-- what holds of the bytes wherever they are known
if_known : {A : Type 0} (o : Option A) (P : A → Type 0) → ((b : A) → o ≡ Some b → P b) → IfSome o P
if_known None P all = tt
if_known (Some b) P all = all b refl

-- a row of a level as callers see it
pub row_seen : {T E F : Type 0} (r : Result T E) (bytes : F → Option (List ℕ)) (u v : StripChainView F) (level y : ℕ) (out : List ℕ) → u ≡ v
    → length out ≡ level_row_length v.header level
    → OnOk r ((b : List ℕ) → bytes u.file ≡ Some b → HasWords (depth_of u.header.maximum) (λ x. texture_texel u.header b level x y)
    (side u.header.width level) out) → OnOk r (AreBytes out)
    → OnOk r (IfSome (bytes v.file) (λ b. IsTexelRow (depth_of v.header.maximum) (λ x. texture_texel v.header b level x y)
    (side v.header.width level) out))
row_seen (Err e) bytes u v level y out same full words values = tt
row_seen {F = F} (Ok x) bytes u v level y out same full words values =
    if_known (bytes v.file) (λ b. IsTexelRow (depth_of v.header.maximum) (λ x. texture_texel v.header b level x y) (side v.header.width level) out)
    (λ b e. words_row (depth_of v.header.maximum) (λ x. texture_texel v.header b level x y) (side v.header.width level) out
    (depth_is v.header.maximum) values full
    (subst (λ (w : StripChainView F). bytes w.file ≡ Some b → HasWords (depth_of w.header.maximum) (λ x. texture_texel w.header b level x y)
    (side w.header.width level) out) same (words b) e))

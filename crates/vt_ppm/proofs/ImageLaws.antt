-- Bytes spell one image at most, and such bytes have no flaw.
use Rattle.std.proofs.Common.{◌≡◌, inl, inr, ℕ, ◌+◌, ◌*◌, ◌<◌, ◌≤◌, List, [], ◌∷◌, ◌++◌, length, take, drop, sym, ap, ◌∙◌, subst, arith, length-append, codes, ◌^◌}
use Rattle.std.proofs.Math.Seq.{take-append_seam, drop-append_seam}
use Rattle.std.proofs.lemmas.List.{take-append-drop, length-take-le}
use Rattle.vt_ppm.specs.declared.error.PpmError.{PpmError}
use Rattle.vt_ppm.specs.declared.error.PpmError.TheVariants.{BadMagic, BadHeader, BadSize, BadMaximum, Truncated, SampleOver, Failed, NoMemory}
use Rattle.vt_definitions.specs.Limits.{most_read_side, most_tiled_side}
use Rattle.vt_definitions.specs.Depths.{IsDepth, AreBytes, sample_at, texel_length}
use Rattle.vt_definitions.proofs.TexelWords.{words_small}
use Rattle.vt_ppm.specs.Image.{ImageView, texel_of}
use Rattle.vt_ppm.specs.Format.{IsHeader, HasHeader, AreSameHeaders, IsImageUpTo, AreScaled, depth_of, scaled}
use Rattle.vt_ppm.specs.declared.header.Header.{Header}
use Rattle.vt_ppm.specs.Strips.{HasRaster, IsTextureHeader}
use Rattle.vt_ppm.specs.Flaws.{AreImageSides, HasBadSize, IsSized, HasBadMaximum, IsLawfulHeader, IsTruncated, IsSampleOver, IsFlawUpTo}
use Rattle.vt_ppm.proofs.SampleValues.{front_sample, sample_room, samples_of_texels, same_bytes}
use Rattle.vt_ppm.proofs.Headers.{AreSameTexts, header_is_one}

-- bytes begin with one header at most
pub start_is_one : (b : List ℕ) (r w h m s u v n : ℕ) → HasHeader b r w h m → HasHeader b s u v n → AreSameHeaders r w h m s u v n
start_is_one b r w h m s u v n i j =
    let both : take r b ++ drop r b ≡ take s b ++ drop s b = take-append-drop r b ∙ sym (take-append-drop s b) in
    let same : AreSameTexts (take r b) (take s b) (drop r b) (drop s b) w h m u v n =
    header_is_one (take r b) (take s b) (drop r b) (drop s b) w h m u v n i.header j.header both in
    record {
      raster = sym (length-take-le r b i.within) ∙ ap length same.text ∙ length-take-le s b j.within;
      width = same.width;
      height = same.height;
      maximum = same.maximum;
    }

-- bytes that begin with a header begin with `P6`
pub magic_of_start : (b : List ℕ) (r w h m : ℕ) → HasHeader b r w h m → take 2 b ≡ codes "P6"
magic_of_start b r w h m i =
    let e : b ≡ codes "P6" ++ ((i.header.first ++ (i.header.second ++ (i.header.third ++ (i.header.space ∷ [])))) ++ drop r b) =
    sym (take-append-drop r b) ∙ ap (λ xs. xs ++ drop r b) i.header.spelt in
    ap (take 2) e

-- the header of an image
pub start_of_image : (most : ℕ) (b : List ℕ) (p : ImageView) (i : IsImageUpTo most b p) → HasHeader b (length i.text) p.width p.height i.maximum
start_of_image most b p i =
    let e : take (length i.text) b ≡ i.text = ap (take (length i.text)) i.spelt ∙ take-append_seam i.text (i.raster ++ i.rest) in
    record {
      within = omega (arith, ap length i.spelt, length-append i.text (i.raster ++ i.rest));
      early = i.early;
      header = subst (λ xs. IsHeader xs p.width p.height i.maximum) (sym e) i.header;
    }

-- sides that two headers agree on
pub same_sides : (most w h u v : ℕ) → w ≡ u → h ≡ v → AreImageSides most w h → AreImageSides most u v
same_sides most w h u v e f sides = subst (λ k. AreImageSides most k v) e (subst (λ k. AreImageSides most w k) f sides)

-- headers that agree have rasters of one length, and as many samples
pub same_rasters : (m w h n u v : ℕ) → m ≡ n → w ≡ u → h ≡ v → texel_length (depth_of m) * (w * h) ≡ texel_length (depth_of n) * (u * v)
same_rasters m w h n u v d e f = ap (λ k. texel_length (depth_of k) * (w * h)) d ∙ ap (λ k. texel_length (depth_of n) * (k * h)) e
    ∙ ap (λ k. texel_length (depth_of n) * (u * k)) f

pub same_counts : (w h u v : ℕ) → w ≡ u → h ≡ v → 3 * (w * h) ≡ 3 * (u * v)
same_counts w h u v e f = ap (λ k. 3 * (k * h)) e ∙ ap (λ k. 3 * (u * k)) f

-- lawful headers have none of the flaws that speak of a header
module _ (most : ℕ) (b : List ℕ) (r w h m : ℕ) (known : IsSized most b r w h m) where
  pub size_is_good : HasBadSize most b → ⊥
  size_is_good bad =
      let e : AreSameHeaders r w h m bad.raster bad.width bad.height bad.maximum =
      start_is_one b r w h m bad.raster bad.width bad.height bad.maximum known.header bad.header in
      bad.bad (same_sides most w h bad.width bad.height e.width e.height known.sides)

  pub maximum_is_good : 1 ≤ m → m ≤ 65535 → HasBadMaximum most b → ⊥
  maximum_is_good some few bad =
      let e : AreSameHeaders r w h m bad.raster bad.width bad.height bad.maximum =
      start_is_one b r w h m bad.raster bad.width bad.height bad.maximum known.header bad.sized.header in
      elim bad.bad [ inl none ↦ omega (arith, e.maximum, none, some) | inr many ↦ omega (arith, e.maximum, many, few) ]

-- the header of an image is lawful
pub lawful_of_image : (most : ℕ) (b : List ℕ) (p : ImageView) (i : IsImageUpTo most b p) → IsLawfulHeader most b (length i.text) p.width p.height i.maximum
lawful_of_image most b p i = record {
  sized = record {
    header = start_of_image most b p i;
    sides = record {
      some_columns = i.image.some_columns;
      few_columns = i.image.few_columns;
      some_rows = i.image.some_rows;
      few_rows = i.image.few_rows;
    };
  };
  lawful = i.lawful;
}

-- the raster of an image, and the bytes of an image as those of its parts
length_of_raster : (most : ℕ) (b : List ℕ) (p : ImageView) (i : IsImageUpTo most b p)
    → length i.raster ≡ texel_length (depth_of i.maximum) * (p.width * p.height)
length_of_raster most b p i = i.full ∙ ap (λ d. texel_length d * (p.width * p.height)) i.depth_is

length_of_image : (most : ℕ) (b : List ℕ) (p : ImageView) (i : IsImageUpTo most b p)
    → length b ≡ length i.text + (texel_length (depth_of i.maximum) * (p.width * p.height) + length i.rest)
length_of_image most b p i =
    ap length i.spelt ∙ length-append i.text (i.raster ++ i.rest) ∙ ap (λ k. length i.text + k)
    (length-append i.raster i.rest ∙ ap (λ k. k + length i.rest) (length_of_raster most b p i))

image_is_whole : (most : ℕ) (b : List ℕ) (p : ImageView) (want have : ℕ) → IsImageUpTo most b p → IsTruncated most b want have → ⊥
image_is_whole most b p want have i bad =
    let start : HasHeader b (length i.text) p.width p.height i.maximum = start_of_image most b p i in
    let e : AreSameHeaders (length i.text) p.width p.height i.maximum bad.raster bad.width bad.height bad.maximum =
    start_is_one b (length i.text) p.width p.height i.maximum bad.raster bad.width bad.height bad.maximum start bad.header.sized.header in
    few (length i.text) bad.raster (texel_length (depth_of i.maximum) * (p.width * p.height))
    (texel_length (depth_of bad.maximum) * (bad.width * bad.height)) (length i.rest) (length b) want have e.raster
    (same_rasters i.maximum p.width p.height bad.maximum bad.width bad.height e.maximum e.width e.height)
    (length_of_image most b p i) bad.want_is bad.have_is bad.short
  where
    few : (t r n k rest l want have : ℕ) → t ≡ r → n ≡ k → l ≡ t + (n + rest) → want ≡ k → r + have ≡ l → have < want → ⊥
    few t r n k rest l want have e f total want_is have_is short = omega arith

-- a sample behind the header is that of the raster
sample_of_image : (most : ℕ) (b : List ℕ) (p : ImageView) (i : IsImageUpTo most b p) (d r n : ℕ) → d ≡ p.depth → length i.text ≡ r
    → n < 3 * (p.width * p.height)
    → sample_at d (drop r b) n ≡ sample_at p.depth i.raster n
sample_of_image most b p i d r n same from inside =
    let behind : drop r b ≡ i.raster ++ i.rest = ap (λ k. drop k b) (sym from) ∙ ap (drop (length i.text)) i.spelt
    ∙ drop-append_seam i.text (i.raster ++ i.rest) in
    ap (λ k. sample_at k (drop r b) n) same ∙ ap (λ xs. sample_at p.depth xs n) behind
    ∙ front_sample p.depth i.raster i.rest n i.image.depth (omega (arith, i.full, sample_room p.depth n (p.width * p.height) i.image.depth inside))

image_is_under : (most : ℕ) (b : List ℕ) (p : ImageView) (at : ℕ) → IsImageUpTo most b p → IsSampleOver most b at → ⊥
image_is_under most b p at i bad =
    let start : HasHeader b (length i.text) p.width p.height i.maximum = start_of_image most b p i in
    let e : AreSameHeaders (length i.text) p.width p.height i.maximum bad.raster bad.width bad.height bad.maximum =
    start_is_one b (length i.text) p.width p.height i.maximum bad.raster bad.width bad.height bad.maximum start bad.header.sized.header in
    let same : depth_of bad.maximum ≡ p.depth = ap depth_of (sym e.maximum) ∙ sym i.depth_is in
    let inside : bad.number < 3 * (p.width * p.height) =
    subst (λ k. bad.number < k) (sym (same_counts p.width p.height bad.width bad.height e.width e.height)) bad.within in
    let here : sample_at (depth_of bad.maximum) (drop bad.raster b) bad.number ≡ sample_at p.depth i.raster bad.number =
    sample_of_image most b p i (depth_of bad.maximum) bad.raster bad.number same e.raster inside in
    over (sample_at (depth_of bad.maximum) (drop bad.raster b) bad.number) (sample_at p.depth i.raster bad.number) i.maximum bad.maximum here
    (i.few bad.number inside) bad.over e.maximum
  where
    over : (s t m n : ℕ) → s ≡ t → t ≤ m → n < s → m ≡ n → ⊥
    over s t m n e few more f = omega arith

-- an image has no flaw
pub no_image_flaw : (most : ℕ) (b : List ℕ) (p : ImageView) (e : PpmError) → IsImageUpTo most b p → IsFlawUpTo most b e → ⊥
no_image_flaw most b p BadMagic i bad = bad (magic_of_start b (length i.text) p.width p.height i.maximum (start_of_image most b p i))
no_image_flaw most b p (BadHeader at) i bad = bad.1.none (length i.text) p.width p.height i.maximum (start_of_image most b p i)
no_image_flaw most b p BadSize i bad = size_is_good most b (length i.text) p.width p.height i.maximum (lawful_of_image most b p i).sized bad
no_image_flaw most b p BadMaximum i bad = maximum_is_good most b (length i.text) p.width p.height i.maximum
    (lawful_of_image most b p i).sized i.lawful.some i.lawful.few bad
no_image_flaw most b p (Truncated want have) i bad = image_is_whole most b p want have i bad
no_image_flaw most b p (SampleOver at) i bad = image_is_under most b p at i bad
no_image_flaw most b p Failed i bad = bad
no_image_flaw most b p NoMemory i bad = bad

abbrev made : ℕ → ℕ → ℕ → List ℕ → ImageView
made d w h xs = record { depth = d; width = w; height = h; samples = xs }

view_same : (p q : ImageView) → p.depth ≡ q.depth → p.width ≡ q.width → p.height ≡ q.height → p.samples ≡ q.samples → p ≡ q
view_same p q d e f g = ap (λ n. made n p.width p.height p.samples) d ∙ ap (λ w. made q.depth w p.height p.samples) e
    ∙ ap (λ h. made q.depth q.width h p.samples) f ∙ ap (λ xs. made q.depth q.width q.height xs) g

-- lists of one length before others
same_front : (xs ys r s : List ℕ) → length xs ≡ length ys → xs ++ r ≡ ys ++ s → xs ≡ ys
same_front xs ys r s len e = sym (take-append_seam xs r) ∙ ap (λ k. take k (xs ++ r)) len ∙ ap (take (length ys)) e ∙ take-append_seam ys s

pub image_of_bytes : (most : ℕ) (b : List ℕ) (p : ImageView) → IsImageUpTo most b p → AreBytes p.samples
image_of_bytes most b p i = i.bytes

pub word_is_small : (p : ImageView) (x y : ℕ) → IsDepth p.depth → AreBytes p.samples → texel_of p x y < 2 ^ (24 * p.depth)
word_is_small p x y depth all = words_small p.depth p.samples (y * p.width + x) depth all

-- samples that are kept of equal rasters are equal
same_kept : (d e m n c k : ℕ) (r s xs ys : List ℕ) → d ≡ e → m ≡ n → c ≡ k → r ≡ s → AreScaled d m c r xs → AreScaled e n k s ys
    → (i : ℕ) → i < c → sample_at d xs i ≡ sample_at d ys i
same_kept d e m n c k r s xs ys same ms cs rs first second i inside =
    let other : sample_at d ys i ≡ scaled d m (sample_at d r i) = rw (same, ms, rs) (second i (omega (arith, inside, cs))) in
    first i inside ∙ sym other

-- bytes spell one image at most
pub one_image : (most : ℕ) (b : List ℕ) (p q : ImageView) → IsImageUpTo most b p → IsImageUpTo most b q → p ≡ q
one_image most b p q i j =
    let both : i.text ++ (i.raster ++ i.rest) ≡ j.text ++ (j.raster ++ j.rest) = sym i.spelt ∙ j.spelt in
    let e : AreSameTexts i.text j.text (i.raster ++ i.rest) (j.raster ++ j.rest) p.width p.height i.maximum q.width q.height j.maximum =
    header_is_one i.text j.text (i.raster ++ i.rest) (j.raster ++ j.rest) p.width p.height i.maximum q.width q.height j.maximum i.header j.header both in
    let depth : p.depth ≡ q.depth = i.depth_is ∙ ap depth_of e.maximum ∙ sym j.depth_is in
    let counts : 3 * (p.width * p.height) ≡ 3 * (q.width * q.height) = same_counts p.width p.height q.width q.height e.width e.height in
    let lengths : texel_length q.depth * (q.width * q.height) ≡ texel_length p.depth * (p.width * p.height) =
    ap (λ d. texel_length d * (q.width * q.height)) (sym depth) ∙ texels p.depth (q.width * q.height) (p.width * p.height) (sym counts) in
    let rasters : i.raster ≡ j.raster = same_front i.raster j.raster i.rest j.rest (i.full ∙ sym lengths ∙ sym j.full) e.rest in
    let samples : p.samples ≡ q.samples = same_bytes p.depth (3 * (p.width * p.height)) p.samples q.samples i.image.depth
    (i.image.full ∙ samples_of_texels p.depth (p.width * p.height)) (j.image.full ∙ lengths ∙ samples_of_texels p.depth (p.width * p.height)) i.bytes j.bytes
    (same_kept p.depth q.depth i.maximum j.maximum (3 * (p.width * p.height)) (3 * (q.width * q.height)) i.raster j.raster p.samples q.samples depth
    e.maximum counts rasters i.kept j.kept) in
    view_same p q depth e.width e.height samples
  where
    texels : (d n k : ℕ) → 3 * n ≡ 3 * k → texel_length d * n ≡ texel_length d * k
    texels d n k e = let same : n ≡ k = omega (arith, e) in ap (λ j. texel_length d * j) same

-- an image that may be read whole is a texture
pub image_is_texture : (b : List ℕ) (p : ImageView) → IsImageUpTo most_read_side b p → IsImageUpTo most_tiled_side b p
image_is_texture b p i = record {
  text = i.text;
  raster = i.raster;
  rest = i.rest;
  maximum = i.maximum;
  spelt = i.spelt;
  header = i.header;
  early = i.early;
  lawful = i.lawful;
  depth_is = i.depth_is;
  image = record {
    depth = i.image.depth;
    some_columns = i.image.some_columns;
    few_columns = omega (arith, i.image.few_columns);
    some_rows = i.image.some_rows;
    few_rows = omega (arith, i.image.few_rows);
    full = i.image.full;
  };
  full = i.full;
  few = i.few;
  kept = i.kept;
  bytes = i.bytes;
}

-- sides and a header that are lawful where less is taken are lawful where more is
pub wider_sides : (m n w h : ℕ) → m ≤ n → AreImageSides m w h → AreImageSides n w h
wider_sides m n w h more sides = record {
  some_columns = sides.some_columns;
  few_columns = omega (arith, sides.few_columns, more);
  some_rows = sides.some_rows;
  few_rows = omega (arith, sides.few_rows, more);
}

pub wider_header : (m n : ℕ) (b : List ℕ) (r w h x : ℕ) → m ≤ n → IsLawfulHeader m b r w h x → IsLawfulHeader n b r w h x
wider_header m n b r w h x more header = record {
  sized = record { header = header.sized.header; sides = wider_sides m n w h more header.sized.sides };
  lawful = header.lawful;
}

-- a lawful header is one of a texture
pub texture_header : (most : ℕ) (b : List ℕ) (h : Header) → most ≤ most_tiled_side → IsLawfulHeader most b h.raster h.width h.height h.maximum
    → IsTextureHeader h
texture_header most b h few header = record {
  sides = wider_sides most most_tiled_side h.width h.height few header.sized.sides;
  maximum = header.lawful;
  early = header.sized.header.early;
}

-- a texture whose sides are not above a number is an image up to it
pub texture_within_sides : (most : ℕ) (b : List ℕ) (p : ImageView) → AreImageSides most p.width p.height → IsImageUpTo most_tiled_side b p
    → IsImageUpTo most b p
texture_within_sides most b p sides i = record {
  text = i.text;
  raster = i.raster;
  rest = i.rest;
  maximum = i.maximum;
  spelt = i.spelt;
  header = i.header;
  early = i.early;
  lawful = i.lawful;
  depth_is = i.depth_is;
  image = record {
    depth = i.image.depth;
    some_columns = i.image.some_columns;
    few_columns = sides.few_columns;
    some_rows = i.image.some_rows;
    few_rows = sides.few_rows;
    full = i.image.full;
  };
  full = i.full;
  few = i.few;
  kept = i.kept;
  bytes = i.bytes;
}

-- a sample above the maximum of such a texture is its flaw as an image up to the number
pub sample_flaw_within_sides : (most : ℕ) (b : List ℕ) (h : Header) (at : ℕ) → HasRaster b h → AreImageSides most h.width h.height
    → IsSampleOver most_tiled_side b at → IsSampleOver most b at
sample_flaw_within_sides most b h at has sides over =
    let e : AreSameHeaders h.raster h.width h.height h.maximum over.raster over.width over.height over.maximum =
    start_is_one b h.raster h.width h.height h.maximum over.raster over.width over.height over.maximum has.header.sized.header over.header.sized.header in
    record {
      raster = over.raster;
      width = over.width;
      height = over.height;
      maximum = over.maximum;
      number = over.number;
      header = record {
        sized = record { header = over.header.sized.header; sides = same_sides most h.width h.height over.width over.height e.width e.height sides };
        lawful = over.header.lawful;
      };
      full = over.full;
      within = over.within;
      over = over.over;
      first = over.first;
      at_is = over.at_is;
    }

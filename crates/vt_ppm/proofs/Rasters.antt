-- Rasters: their samples as they are kept, and the images that they make.
use Rattle.std.proofs.Common.{◌≡◌, inl, inr, ℕ, ◌+◌, ◌*◌, ◌<◌, ◌≤◌, List, ◌++◌, length, take, drop, min, refl, sym, ap, ◌∙◌, subst, arith, length-drop, length-take}
use Rattle.std.proofs.lemmas.List.{take-append-drop, take-take, take_min, take_at, length-take-le}
use Rattle.vt_definitions.specs.Depths.{AreBytes, sample_at, texel_length}
use Rattle.vt_outside.specs.Files.{IsPiece}
use Rattle.vt_ppm.specs.declared.error.PpmError.{PpmError}
use Rattle.vt_ppm.specs.declared.error.PpmError.TheVariants.{BadMagic, BadHeader, BadSize, BadMaximum, Truncated, SampleOver, Failed, NoMemory}
use Rattle.vt_ppm.specs.Format.{IsHeader, HasHeader, IsImageUpTo, AreUpTo, AreScaled, depth_of, scaled}
use Rattle.vt_ppm.specs.Flaws.{IsHeaderFront, IsBrokenAt, IsSized, IsLawfulHeader, IsTruncated, IsSampleOver, IsFlawUpTo}
use Rattle.vt_ppm.specs.Refusals.{IsRasterRefusal}
use Rattle.vt_ppm.specs.Image.{ImageView}
use Rattle.vt_ppm.specs.Strips.{sample_bytes}
use Rattle.vt_ppm.specs.Samples.{IsOverAt, IsRasterImage, AreScaledUpTo}
use Rattle.vt_ppm.proofs.SampleValues.{depth_is, front_sample, sample_room, kept_few, samples_of_texels, samples_length, samples_bytes, samples_sample}

abbrev view : ℕ → ℕ → ℕ → List ℕ → ImageView
view d w h xs = record { depth = d; width = w; height = h; samples = xs }

-- an image of a buffer that was scaled to its end
pub raster_image : (w h m : ℕ) (items all new : List ℕ) (len count d : ℕ) (p : ImageView) → all ≡ items → length all ≡ len → length new ≡ length all
    → count ≡ 3 * (w * h) → d ≡ depth_of m → AreUpTo (depth_of m) m (3 * (w * h)) items → AreScaledUpTo (depth_of m) m count all new → AreBytes new
    → p ≡ record { depth = d; width = w; height = h; samples = take len (new ++ drop (length new) items) } → IsRasterImage w h m items p
raster_image w h m items all new len count d p same size kept_size counted depth few each bytes shape = record {
  samples = new;
  shape = shape ∙ ap (λ k. view k w h (take len (new ++ drop (length new) items))) depth
      ∙ ap (view (depth_of m) w h) (take_at new (drop (length new) items) len (kept_size ∙ size));
  full = kept_size ∙ ap length same;
  kept = λ i inside. each i (omega (arith, inside, counted)) (subst (λ xs. sample_at (depth_of m) xs i ≤ m) (sym same) (few i inside))
      ∙ ap (λ xs. scaled (depth_of m) m (sample_at (depth_of m) xs i)) same;
  bytes = bytes;
}

-- the bytes of which these are the first
module _ (most : ℕ) (b head : List ℕ) (e : head ≡ take 65536 b) where
  head_len : length head ≡ min 65536 (length b)
  head_len = ap length e ∙ length-take 65536 b

  head_front : (n : ℕ) → n ≤ 65536 → take n head ≡ take n b
  head_front n early = ap (take n) e ∙ take-take n 65536 b early

  has_header : (r w h m : ℕ) → HasHeader head r w h m → HasHeader b r w h m
  has_header r w h m has = record {
    within = omega (arith, head_len, has.within);
    early = has.early;
    header = subst (λ xs. IsHeader xs w h m) (head_front r has.early) has.header;
  }

  in_head : (r w h m : ℕ) → HasHeader b r w h m → HasHeader head r w h m
  in_head r w h m has = record {
    within = omega (arith, head_len, has.within, has.early);
    early = has.early;
    header = subst (λ xs. IsHeader xs w h m) (sym (head_front r has.early)) has.header;
  }

  sized_header : (r w h m : ℕ) → IsSized most head r w h m → IsSized most b r w h m
  sized_header r w h m s = record { header = has_header r w h m s.header; sides = s.sides }

  pub lawful_header : (r w h m : ℕ) → IsLawfulHeader most head r w h m → IsLawfulHeader most b r w h m
  lawful_header r w h m l = record { sized = sized_header r w h m l.sized; lawful = l.lawful }

  broken_header : (at : ℕ) → IsBrokenAt head at → IsBrokenAt b at
  broken_header at broken =
      let early : at ≤ 65536 = elim broken.breaks [ inl end ↦ omega (arith, end) | inr short ↦ omega (arith, short.0) ] in
      record {
        none = λ r w h m has. broken.none r w h m (in_head r w h m has);
        front = subst IsHeaderFront (head_front at early) broken.front;
        breaks = elim broken.breaks [
          | inl end ↦ inl (omega (arith, end, head_len))
          | inr short ↦ inr (
            omega (arith, short.0, head_len),
            λ front. short.1
                (subst IsHeaderFront (sym (head_front (at + 1) (omega (arith, short.0, head_len)))) front),
          )
        ];
      }

  pub flaw_of_head : (e : PpmError) → (IsRasterRefusal e → ⊥) → IsFlawUpTo most head e → IsFlawUpTo most b e
  flaw_of_head BadMagic first f = λ magic. f (head_front 2 (omega arith) ∙ magic)
  flaw_of_head (BadHeader at) first f = (sym (head_front 2 (omega arith)) ∙ f.0, broken_header at f.1)
  flaw_of_head BadSize first f = record {
    raster = f.raster;
    width = f.width;
    height = f.height;
    maximum = f.maximum;
    header = has_header f.raster f.width f.height f.maximum f.header;
    bad = f.bad;
  }
  flaw_of_head BadMaximum first f = record {
    raster = f.raster;
    width = f.width;
    height = f.height;
    maximum = f.maximum;
    sized = sized_header f.raster f.width f.height f.maximum f.sized;
    bad = f.bad;
  }
  flaw_of_head (Truncated want have) first f = absurd (first tt)
  flaw_of_head (SampleOver at) first f = absurd (first tt)
  flaw_of_head Failed first f = f
  flaw_of_head NoMemory first f = f

-- the first bytes, as many as a header may have
pub head_is : (b head : List ℕ) (n : ℕ) → n ≡ length b → head ≡ take (min n 65536) b → head ≡ take 65536 b
head_is b head n known e =
    let swap : min n 65536 ≡ min 65536 (length b) = omega (arith, known) in
    e ∙ ap (λ k. take k b) swap ∙ take_min 65536 b

-- a header and the raster behind it
module _ (most : ℕ) (b raster : List ℕ) (r w h m : ℕ) (header : IsLawfulHeader most b r w h m) (piece : IsPiece b r raster)
    (full : length raster ≡ texel_length (depth_of m) * (w * h)) where
  parts : raster ++ drop (length raster) (drop r b) ≡ drop r b
  parts = ap (λ xs. xs ++ drop (length raster) (drop r b)) piece.same ∙ take-append-drop (length raster) (drop r b)

  pub image_made : (samples : List ℕ) → AreUpTo (depth_of m) m (3 * (w * h)) raster → AreScaled (depth_of m) m (3 * (w * h)) raster samples
      → length samples ≡ length raster → AreBytes samples → IsImageUpTo most b (record { depth = depth_of m; width = w; height = h; samples = samples })
  image_made samples few kept len bytes = record {
    text = take r b;
    raster = raster;
    rest = drop (length raster) (drop r b);
    maximum = m;
    spelt = sym (ap (λ xs. take r b ++ xs) parts ∙ take-append-drop r b);
    header = header.sized.header.header;
    early = omega (arith, length-take-le r b header.sized.header.within, header.sized.header.early);
    lawful = header.lawful;
    depth_is = refl;
    image = record {
      depth = depth_is m;
      some_columns = header.sized.sides.some_columns;
      few_columns = header.sized.sides.few_columns;
      some_rows = header.sized.sides.some_rows;
      few_rows = header.sized.sides.few_rows;
      full = len ∙ full;
    };
    full = full;
    few = few;
    kept = kept;
    bytes = bytes;
  }

  pub image_is : (p : ImageView) → AreUpTo (depth_of m) m (3 * (w * h)) raster → IsRasterImage w h m raster p → IsImageUpTo most b p
  image_is p few i = subst (IsImageUpTo most b) (sym i.shape) (image_made i.samples few i.kept i.full i.bytes)

  -- the samples of the raster up to the maximum make an image
  pub image_there : AreUpTo (depth_of m) m (3 * (w * h)) raster → (p : ImageView) × IsImageUpTo most b p
  image_there few =
      let d : ℕ = depth_of m in
      let kept : ℕ → ℕ = λ i. scaled d m (sample_at d raster i) in
      let len : length (sample_bytes d kept (3 * (w * h))) ≡ length raster =
      samples_length d kept (3 * (w * h)) (depth_is m) ∙ sym (samples_of_texels d (w * h)) ∙ sym full in (
        record { depth = d; width = w; height = h; samples = sample_bytes d kept (3 * (w * h)) },
        image_made (sample_bytes d kept (3 * (w * h))) few
            (λ i inside. samples_sample d kept (3 * (w * h)) i (depth_is m)
            (λ k within. kept_few d m (sample_at d raster k) (depth_is m) header.lawful.some (few k within)) inside)
            len (samples_bytes d kept (3 * (w * h)) (depth_is m)),
      )

  -- a sample of the raster is one behind the header
  behind : (i : ℕ) → i < 3 * (w * h) → sample_at (depth_of m) (drop r b) i ≡ sample_at (depth_of m) raster i
  behind i inside = ap (λ xs. sample_at (depth_of m) xs i) (sym parts)
      ∙ front_sample (depth_of m) raster (drop (length raster) (drop r b)) i (depth_is m)
      (omega (arith, full, sample_room (depth_of m) i (w * h) (depth_is m) inside))

  pub sample_over : (at : ℕ) → IsOverAt r m (3 * (w * h)) raster at → IsSampleOver most b at
  sample_over at place = let over = place.over in record {
    raster = r;
    width = w;
    height = h;
    maximum = m;
    number = place.number;
    header = header;
    full = omega (arith, piece.within, full);
    within = over.within;
    over = subst (λ s. m < s) (sym (behind place.number over.within)) over.over;
    first = λ i before. subst (λ s. s ≤ m) (sym (behind i (omega (arith, before, over.within)))) (over.first i before);
    at_is = place.at_is;
  }

pub truncated : (most : ℕ) (b : List ℕ) (r w h m want have : ℕ) → IsLawfulHeader most b r w h m → want ≡ texel_length (depth_of m) * (w * h)
    → r + have ≡ length b → have < want → IsTruncated most b want have
truncated most b r w h m want have header want_is have_is short = record {
  raster = r;
  width = w;
  height = h;
  maximum = m;
  header = header;
  want_is = want_is;
  have_is = have_is;
  short = short;
}

-- the bytes from a place on, so many
pub piece_is : (b behind raster : List ℕ) (r want : ℕ) → r ≤ length b → behind ≡ drop r b → want ≤ length behind → raster ≡ take want behind
    → IsPiece b r raster
piece_is b behind raster r want inside eb fits er =
    let len : length raster ≡ want = ap length er ∙ length-take-le want behind fits in
    record {
      within = omega (arith, len, ap length eb, length-drop r b);
      same = er ∙ ap (take want) eb ∙ ap (λ n. take n (drop r b)) (sym len);
    }

-- Rows of a texture: which of its samples they are, and what they are kept as.
use Rattle.std.proofs.Common.{◌≡◌, inl, inr, ℕ, ◌+◌, ◌-◌, ◌*◌, ◌<◌, ◌≤◌, List, length, take, drop, get_or, min, Bool, true, Option, Some, None, IfSome, option_map, Result, Ok, Err, IsErrAnd, refl, sym, ap, ◌∙◌, subst, arith, length-drop}
use Rattle.std.proofs.lemmas.Bool.{cases_lt}
use Rattle.std.proofs.lemmas.List.{get_or-take, get_or-drop, drop-drop, length-take-le}
use Rattle.std.proofs.lemmas.List.Elements.{All-take, All-drop}
use Rattle.std.proofs.lemmas.Nat.{mul-le}
use Rattle.vt_definitions.specs.Depths.{IsDepth, AreBytes, greatest_sample, sample_at, texel_length}
use Rattle.vt_definitions.specs.Limits.{header_limit, most_tiled_side}
use Rattle.vt_outside.specs.Files.{IsPiece, AreBytesIfKnown, HasPlace, noted}
use Rattle.vt_outside.specs.declared.place.Place.{Place}
use Rattle.vt_ppm.specs.declared.error.PpmError.{PpmError}
use Rattle.vt_ppm.specs.declared.error.PpmError.TheVariants.{Failed}
use Rattle.vt_ppm.specs.declared.header.Header.{Header}
use Rattle.vt_ppm.specs.Format.{IsTexture, AreUpTo, depth_of, scaled}
use Rattle.vt_ppm.specs.Flaws.{IsLawfulHeader, IsSampleOver}
use Rattle.vt_ppm.specs.Reads.{IsImagePrefix}
use Rattle.vt_ppm.specs.Samples.{AreScaledUpTo, IsFirstOver}
use Rattle.vt_ppm.specs.Strips.{HasRaster, HasRasterIfKnown, MayBeOver, HasSamplesIfKnown, IsTextureIfKnown, AreRowsUpTo, texture_of, sample_bytes, kept_samples, row_length, row_start, sample_rows, RowsAsked, ChecksRows}
use Rattle.vt_ppm.proofs.Rasters.{image_made}
use Rattle.vt_ppm.proofs.SampleValues.{by_depth, depth_is, sample_few, kept_few, same_bytes, samples_of_texels, samples_length, samples_bytes, samples_sample}
use Rattle.vt_ppm.proofs.KnownFiles.{header_known}

-- a sample of the first ones is one of all
front_of_samples : (d : ℕ) (xs : List ℕ) (n i : ℕ) → IsDepth d → i < n → sample_at d (take (d * n) xs) i ≡ sample_at d xs i
front_of_samples d xs n i depth inside = by_depth (λ d. sample_at d (take (d * n) xs) i ≡ sample_at d xs i) narrow wide d depth
  where
    narrow : sample_at 1 (take (1 * n) xs) i ≡ sample_at 1 xs i
    narrow = ap (λ k. 0 * 256 + k) (get_or-take (1 * n) xs (1 * i + 0) 0 (omega (arith, inside)))

    wide : sample_at 2 (take (2 * n) xs) i ≡ sample_at 2 xs i
    wide = ap (λ k. (0 * 256 + k) * 256 + get_or (take (2 * n) xs) (2 * i + 1) 0) (get_or-take (2 * n) xs (2 * i + 0) 0 (omega (arith, inside)))
        ∙ ap (λ k. (0 * 256 + get_or xs (2 * i + 0) 0) * 256 + k) (get_or-take (2 * n) xs (2 * i + 1) 0 (omega (arith, inside)))

-- a sample behind so many is a later one of all
later_sample : (d : ℕ) (xs : List ℕ) (k i : ℕ) → IsDepth d → sample_at d (drop (d * k) xs) i ≡ sample_at d xs (k + i)
later_sample d xs k i depth = by_depth (λ d. sample_at d (drop (d * k) xs) i ≡ sample_at d xs (k + i)) narrow wide d depth
  where
    narrow : sample_at 1 (drop (1 * k) xs) i ≡ sample_at 1 xs (k + i)
    narrow = let place : 1 * k + (1 * i + 0) ≡ 1 * (k + i) + 0 = omega arith in
        ap (λ k. 0 * 256 + k) (get_or-drop (1 * k) xs (1 * i + 0) 0 ∙ ap (λ j. get_or xs j 0) place)

    wide : sample_at 2 (drop (2 * k) xs) i ≡ sample_at 2 xs (k + i)
    wide = let high : 2 * k + (2 * i + 0) ≡ 2 * (k + i) + 0 = omega arith in
        let low : 2 * k + (2 * i + 1) ≡ 2 * (k + i) + 1 = omega arith in
        ap (λ n. (0 * 256 + n) * 256 + get_or (drop (2 * k) xs) (2 * i + 1) 0) (get_or-drop (2 * k) xs (2 * i + 0) 0 ∙ ap (λ j. get_or xs j 0) high)
        ∙ ap (λ n. (0 * 256 + get_or xs (2 * (k + i) + 0) 0) * 256 + n) (get_or-drop (2 * k) xs (2 * i + 1) 0 ∙ ap (λ j. get_or xs j 0) low)

-- so many rows, in bytes, are so many samples
pub rows_in_samples : (d w n : ℕ) → n * (texel_length d * w) ≡ d * (3 * (w * n))
rows_in_samples d w n = grind arith

-- rows lie in the raster
pub rows_end : (h : Header) (y count : ℕ) → y + count ≤ h.height → row_start h y + count * row_length h ≤ row_start h h.height
rows_end h y count inside = omega (arith, mul-le (y + count) (row_length h) h.height (row_length h) inside (omega arith))

-- the place of rows in bytes that have the raster
pub rows_inside : (known : Option (List ℕ)) (h : Header) (y count len : ℕ) → HasRasterIfKnown known h → y + count ≤ h.height
    → len ≡ count * row_length h → HasPlace known (row_start h y) len
rows_inside None h y count len has inside e = tt
rows_inside (Some b) h y count len has inside e = omega (arith, (has.each b refl).full, rows_end h y count inside, e)

-- a sample of rows that were read is one behind the header
pub sample_of_rows : (h : Header) (b xs : List ℕ) (y count i : ℕ) → IsPiece b (row_start h y) xs → length xs ≡ count * row_length h
    → i < 3 * (h.width * count)
    → sample_at (depth_of h.maximum) xs i ≡ sample_at (depth_of h.maximum) (drop h.raster b) (3 * (h.width * y) + i)
sample_of_rows h b xs y count i piece full inside =
    let d : ℕ = depth_of h.maximum in
    let size : length xs ≡ d * (3 * (h.width * count)) = full ∙ rows_in_samples d h.width count in
    let from : y * row_length h ≡ d * (3 * (h.width * y)) = rows_in_samples d h.width y in
    ap (λ zs. sample_at d zs i) (piece.same ∙ ap (λ n. take n (drop (row_start h y) b)) size)
    ∙ front_of_samples d (drop (row_start h y) b) (3 * (h.width * count)) i (depth_is h.maximum) inside
    ∙ ap (λ zs. sample_at d zs i) (sym (drop-drop (y * row_length h) h.raster b) ∙ ap (λ n. drop n (drop h.raster b)) from)
    ∙ later_sample d (drop h.raster b) (3 * (h.width * y)) i (depth_is h.maximum)

-- the rows up to these and these have no sample above the maximum
pub rows_more : (h : Header) (b xs : List ℕ) (y count : ℕ) → IsPiece b (row_start h y) xs → length xs ≡ count * row_length h
    → AreUpTo (depth_of h.maximum) h.maximum (3 * (h.width * count)) xs → AreRowsUpTo h b y → AreRowsUpTo h b (y + count)
rows_more h b xs y count piece full few before i inside =
    elim (cases_lt i (3 * (h.width * y))) [
      | inl early ↦ before i early
      | inr late ↦
          let k : ℕ = i - 3 * (h.width * y) in
          let there : k < 3 * (h.width * count) = omega (arith, inside, late) in
          let place : 3 * (h.width * y) + k ≡ i = omega (arith, late) in
          subst (λ s. s ≤ h.maximum)
          (sample_of_rows h b xs y count k piece full there ∙ ap (λ n. sample_at (depth_of h.maximum) (drop h.raster b) n) place) (few k there)
    ]

-- the first sample of these rows that is above the maximum is the first of all, where none is above it before them
pub rows_over : (h : Header) (b xs : List ℕ) (y count number at : ℕ) → HasRaster b h → IsPiece b (row_start h y) xs
    → length xs ≡ count * row_length h → y + count ≤ h.height
    → IsFirstOver (depth_of h.maximum) h.maximum (3 * (h.width * count)) xs number → at ≡ row_start h y + depth_of h.maximum * number
    → AreRowsUpTo h b y → IsSampleOver most_tiled_side b at
rows_over h b xs y count number at has piece full inside over at_is before =
    let all : h.width * (y + count) ≤ h.width * h.height = mul-le h.width (y + count) h.width h.height (omega arith) inside in
    let from : y * row_length h ≡ depth_of h.maximum * (3 * (h.width * y)) = rows_in_samples (depth_of h.maximum) h.width y in
    let whole : h.height * row_length h ≡ texel_length (depth_of h.maximum) * (h.width * h.height) = grind arith in
    let together : depth_of h.maximum * (3 * (h.width * y) + number) ≡ depth_of h.maximum * (3 * (h.width * y)) + depth_of h.maximum * number =
    grind arith in
    record {
      raster = h.raster;
      width = h.width;
      height = h.height;
      maximum = h.maximum;
      number = 3 * (h.width * y) + number;
      header = has.header;
      full = omega (arith, has.full, whole);
      within = omega (arith, over.within, all);
      over = subst (λ s. h.maximum < s) (sample_of_rows h b xs y count number piece full over.within) over.over;
      first = λ i early. elim (cases_lt i (3 * (h.width * y))) [
        | inl sooner ↦ before i sooner
        | inr late ↦
            let k : ℕ = i - 3 * (h.width * y) in
            let there : k < number = omega (arith, early, late) in
            let place : 3 * (h.width * y) + k ≡ i = omega (arith, late) in
            subst (λ s. s ≤ h.maximum)
            (sample_of_rows h b xs y count k piece full (omega (arith, there, over.within))
            ∙ ap (λ n. sample_at (depth_of h.maximum) (drop h.raster b) n) place) (over.first k there)
      ];
      at_is = omega (arith, at_is, from, together);
    }

-- bytes with the raster, none of whose samples is above the maximum, spell the texture
pub texture_is : (b : List ℕ) (h : Header) → HasRaster b h → AreRowsUpTo h b h.height → IsTexture b (texture_of h b)
unfolding kept_samples
texture_is b h has few =
    let d : ℕ = depth_of h.maximum in
    let n : ℕ = 3 * (h.width * h.height) in
    let value : ℕ → ℕ = λ i. scaled d h.maximum (sample_at d (drop h.raster b) i) in
    let whole : h.height * row_length h ≡ d * n = rows_in_samples d h.width h.height in
    let fits : d * n ≤ length (drop h.raster b) = omega (arith, has.full, whole, length-drop h.raster b) in
    let size : length (take (d * n) (drop h.raster b)) ≡ d * n = length-take-le (d * n) (drop h.raster b) fits in
    let same : (i : ℕ) → i < n → sample_at d (take (d * n) (drop h.raster b)) i ≡ sample_at d (drop h.raster b) i =
    λ i inside. front_of_samples d (drop h.raster b) n i (depth_is h.maximum) inside in
    image_made most_tiled_side b (take (d * n) (drop h.raster b)) h.raster h.width h.height h.maximum has.header
    (record {
      within = omega (arith, has.full, whole, size);
      same = ap (λ k. take k (drop h.raster b)) (sym size);
    })
    (size ∙ sym (samples_of_texels d (h.width * h.height)))
    (sample_bytes d value n)
    (λ i inside. subst (λ s. s ≤ h.maximum) (sym (same i inside)) (few i inside))
    (λ i inside. samples_sample d value n i (depth_is h.maximum)
    (λ k within. kept_few d h.maximum (sample_at d (drop h.raster b) k) (depth_is h.maximum) has.header.lawful.some (few k within)) inside
    ∙ ap (scaled d h.maximum) (sym (same i inside)))
    (samples_length d value n (depth_is h.maximum) ∙ sym size)
    (samples_bytes d value n (depth_is h.maximum))

pub texture_known : (known : Option (List ℕ)) (h : Header) → HasRasterIfKnown known h → HasSamplesIfKnown known h → IsTextureIfKnown known h
texture_known known h raster samples = record { each = λ b e. texture_is b h (raster.each b e) (samples.each b e) }

-- where no sample may be above the maximum, none is
pub none_over : (known : Option (List ℕ)) (h : Header) → HasRasterIfKnown known h → (MayBeOver h → ⊥) → HasSamplesIfKnown known h
none_over known h raster never = record { each = λ b e i inside. below b (raster.each b e) i }
  where
    below : (b : List ℕ) → HasRaster b h → (i : ℕ) → sample_at (depth_of h.maximum) (drop h.raster b) i ≤ h.maximum
    below b has i =
        let few : sample_at (depth_of h.maximum) (drop h.raster b) i ≤ greatest_sample (depth_of h.maximum) =
        sample_few (depth_of h.maximum) (drop h.raster b) i (depth_is h.maximum) (All-drop (λ s. s < 256) h.raster b has.values) in
        elim (cases_lt h.maximum (greatest_sample (depth_of h.maximum))) [
          | inl may ↦ absurd (never may)
          | inr greatest ↦ omega (arith, few, greatest)
        ]

-- rows that were read and scaled are those of the texture
pub rows_are : (h : Header) (b xs out : List ℕ) (y count : ℕ) → HasRaster b h → AreRowsUpTo h b h.height → y + count ≤ h.height
    → IsPiece b (row_start h y) xs → length xs ≡ count * row_length h → length out ≡ length xs
    → AreScaledUpTo (depth_of h.maximum) h.maximum (3 * (h.width * count)) xs out → AreBytes out → out ≡ sample_rows h b y count
unfolding kept_samples
rows_are h b xs out y count has few inside piece full kept scaling bytes =
    let d : ℕ = depth_of h.maximum in
    let depth : IsDepth d = depth_is h.maximum in
    let n : ℕ = 3 * (h.width * h.height) in
    let k : ℕ = 3 * (h.width * count) in
    let value : ℕ → ℕ = λ i. scaled d h.maximum (sample_at d (drop h.raster b) i) in
    let from : y * row_length h ≡ d * (3 * (h.width * y)) = rows_in_samples d h.width y in
    let size : count * row_length h ≡ d * k = rows_in_samples d h.width count in
    let whole : h.height * row_length h ≡ d * n = rows_in_samples d h.width h.height in
    let end : (y + count) * row_length h ≤ h.height * row_length h = mul-le (y + count) (row_length h) h.height (row_length h) inside (omega arith) in
    let all : h.width * (y + count) ≤ h.width * h.height = mul-le h.width (y + count) h.width h.height (omega arith) inside in
    let long : length (sample_bytes d value n) ≡ d * n = samples_length d value n depth in
    let room : d * k ≤ length (drop (d * (3 * (h.width * y))) (sample_bytes d value n)) =
    omega (arith, end, from, size, whole, long, length-drop (d * (3 * (h.width * y))) (sample_bytes d value n)) in
    same_bytes d k out (take (d * k) (drop (d * (3 * (h.width * y))) (sample_bytes d value n))) depth (kept ∙ full ∙ size)
    (length-take-le (d * k) (drop (d * (3 * (h.width * y))) (sample_bytes d value n)) room) bytes
    (All-take (λ s. s < 256) (d * k) (drop (d * (3 * (h.width * y))) (sample_bytes d value n))
    (All-drop (λ s. s < 256) (d * (3 * (h.width * y))) (sample_bytes d value n) (samples_bytes d value n depth)))
    (λ i there.
    let read : sample_at d xs i ≡ sample_at d (drop h.raster b) (3 * (h.width * y) + i) = sample_of_rows h b xs y count i piece full there in
    let here : 3 * (h.width * y) + i < n = omega (arith, there, all) in
    scaling i there (subst (λ s. s ≤ h.maximum) (sym read) (few (3 * (h.width * y) + i) here))
    ∙ ap (scaled d h.maximum) read
    ∙ sym (samples_sample d value n (3 * (h.width * y) + i) depth
    (λ j within. kept_few d h.maximum (sample_at d (drop h.raster b) j) depth has.header.lawful.some (few j within)) here)
    ∙ sym (later_sample d (sample_bytes d value n) (3 * (h.width * y)) i depth)
    ∙ sym (front_of_samples d (drop (d * (3 * (h.width * y))) (sample_bytes d value n)) k i depth there))
    ∙ ap (λ m. take m (drop (d * (3 * (h.width * y))) (sample_bytes d value n))) (sym size)
    ∙ ap (λ m. take (count * row_length h) (drop m (sample_bytes d value n))) (sym from)

-- the raster is there where the file has as many bytes behind the header
pub raster_known : (known : Option (List ℕ)) (n : ℕ) (front : List ℕ) (h : Header) (want have : ℕ) → IfSome known (λ b. IsImagePrefix b n front)
    → length front ≡ min n header_limit → IsLawfulHeader most_tiled_side front h.raster h.width h.height h.maximum
    → want ≡ texel_length (depth_of h.maximum) * (h.width * h.height) → have ≡ n - h.raster → want ≤ have → AreBytesIfKnown known → HasRasterIfKnown known h
raster_known known n front h want have is few header want_is have_is enough values =
    record { each = λ b e. there b (subst AreBytesIfKnown e values) (subst (λ t. IfSome t (λ b. IsImagePrefix b n front)) e is) }
  where
    there : (b : List ℕ) → AreBytes b → IsImagePrefix b n front → HasRaster b h
    there b are f =
        let whole : h.height * row_length h ≡ texel_length (depth_of h.maximum) * (h.width * h.height) = grind arith in
        record {
          values = are;
          header = header_known most_tiled_side (Some b) n front f h.raster h.width h.height h.maximum header;
          full = omega (arith, f.len_is, few, header.sized.header.within, want_is, have_is, enough, whole);
        }

-- what rows that were read say of the file, where it tells its bytes
module _ (known : Option (List ℕ)) (h : Header) (xs : List ℕ) (y count start samples : ℕ) (e : start ≡ row_start h y)
    (piece : IfSome known (λ b. IsPiece b start xs)) (full : length xs ≡ count * row_length h) (counted : samples ≡ 3 * (h.width * count)) where
  pub more_known : AreUpTo (depth_of h.maximum) h.maximum samples xs → IfSome known (λ b. AreRowsUpTo h b y → AreRowsUpTo h b (y + count))
  more_known few = found known piece
    where
      found : (t : Option (List ℕ)) → IfSome t (λ b. IsPiece b start xs) → IfSome t (λ b. AreRowsUpTo h b y → AreRowsUpTo h b (y + count))
      found None p = tt
      found (Some b) p = rows_more h b xs y count (subst (λ k. IsPiece b k xs) e p) full (λ i inside. few i (omega (arith, inside, counted)))

  pub over_known : (number depth at : ℕ) → HasRasterIfKnown known h → y + count ≤ h.height → depth ≡ depth_of h.maximum
      → IsFirstOver (depth_of h.maximum) h.maximum samples xs number → at ≡ start + depth * number
      → IfSome known (λ b. AreRowsUpTo h b y → IsSampleOver most_tiled_side b at)
  over_known number depth at has inside ed over place = found known has piece
    where
      at_is : at ≡ row_start h y + depth_of h.maximum * number
      at_is = place ∙ ap (λ k. k + depth * number) e ∙ ap (λ k. row_start h y + k * number) ed

      found : (t : Option (List ℕ)) → HasRasterIfKnown t h → IfSome t (λ b. IsPiece b start xs)
          → IfSome t (λ b. AreRowsUpTo h b y → IsSampleOver most_tiled_side b at)
      found None has p = tt
      found (Some b) has p = rows_over h b xs y count number at (has.each b refl) (subst (λ k. IsPiece b k xs) e p) full inside
          (record { within = omega (arith, over.within, counted); over = over.over; first = over.first }) at_is

  pub scaled_known : (out : List ℕ) → HasRasterIfKnown known h → HasSamplesIfKnown known h → y + count ≤ h.height → length out ≡ length xs
      → AreScaledUpTo (depth_of h.maximum) h.maximum samples xs out → AreBytes out → IfSome known (λ b. out ≡ sample_rows h b y count)
  scaled_known out has few inside kept scaling bytes = found known has few piece
    where
      found : (t : Option (List ℕ)) → HasRasterIfKnown t h → HasSamplesIfKnown t h → IfSome t (λ b. IsPiece b start xs)
          → IfSome t (λ b. out ≡ sample_rows h b y count)
      found None has few p = tt
      found (Some b) has few p = rows_are h b xs out y count (has.each b refl) (few.each b refl) inside (subst (λ k. IsPiece b k xs) e p) full kept
          (λ i there. scaling i (omega (arith, there, counted))) bytes

-- the samples of rows, in bytes
pub rows_full : (h : Header) (len count samples : ℕ) → len ≡ count * row_length h → samples ≡ 3 * (h.width * count) → len ≡ depth_of h.maximum * samples
rows_full h len count samples e f = e ∙ rows_in_samples (depth_of h.maximum) h.width count ∙ ap (λ k. depth_of h.maximum * k) (sym f)

-- the place of rows that a read notes
pub rows_noted : (h : Header) (y count at len : ℕ) (failed : Bool) (before after : Option (List Place)) → at ≡ row_start h y → len ≡ count * row_length h
    → after ≡ option_map (noted at len failed) before → RowsAsked h y count failed before after
rows_noted h y count at len failed before after there whole e =
    e ∙ ap (λ n. option_map (noted n len failed) before) there ∙ ap (λ n. option_map (noted (row_start h y) n failed) before) whole

-- and what was checked where it failed
pub failed_rows : {T : Type 0} (h : Header) (y count : ℕ) (before after : Option (List Place)) (q : Result T PpmError) → IsErrAnd q (λ e. e ≡ Failed)
    → RowsAsked h y count true before after → ChecksRows h y count q before after
failed_rows h y count before after (Ok x) is asked = absurd is
failed_rows {T} h y count before after (Err e) is asked = subst (λ f. ChecksRows h y count {T = T} (Err f) before after) (sym is) asked

-- a sample of rows begins before their end
pub over_before : (h : Header) (y count start d number samples : ℕ) → start ≡ row_start h y → d ≡ depth_of h.maximum
    → samples ≡ 3 * (h.width * count) → number < samples → start + d * number < row_start h (y + count)
over_before h y count start d number samples begins depth size inside =
    let b : ℕ = depth_of h.maximum in
    let some : 1 ≤ b = by_depth (λ d. 1 ≤ d) (omega arith) (omega arith) b (depth_is h.maximum) in
    let few : b * (number + 1) ≤ b * (3 * (h.width * count)) = mul-le b (number + 1) b (3 * (h.width * count)) (omega arith) (omega (arith, inside, size)) in
    let here : d * number ≡ b * number = ap (λ n. n * number) depth in
    let whole : count * row_length h ≡ b * (3 * (h.width * count)) = rows_in_samples b h.width count in
    omega (arith, begins, here, few, some, whole)

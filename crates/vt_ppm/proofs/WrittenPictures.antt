-- What is written of an image is that image.
use Rattle.std.proofs.Common.{◌≡◌, ℕ, ◌<◌, ◌≤◌, ◌^◌, List, [], ◌∷◌, ◌++◌, length, refl, sym, arith, append_assoc, length-append, codes, decimal}
use Rattle.std.proofs.lemmas.Fmt.{decimal_is_IsNumeral, length-decimal-le}
use Rattle.std.proofs.lemmas.List.{append-nil}
use Rattle.vt_definitions.specs.Depths.{AreBytes, greatest_sample, sample_at}
use Rattle.vt_ppm.specs.Image.{ImageView, IsLawfulImage}
use Rattle.vt_ppm.specs.Format.{IsGap, IsNumber, IsField, IsHeader, IsImage, IsMaximum}
use Rattle.vt_ppm.specs.Picture.{picture_bytes}
use Rattle.vt_ppm.proofs.SampleValues.{greatest_is, depth_of_greatest, sample_few, kept_same}
use Rattle.vt_ppm.proofs.Gaps.{white_is_gap}

decimal_is_number : (n : ℕ) → n ≤ 65535 → IsNumber (decimal n) n
decimal_is_number n small =
    let few : n < 10 ^ 10 = omega arith in
    let fits : n < 2 ^ 64 = omega arith in
    let d = decimal_is_IsNumeral n (omega arith) in
    record { numeral = d.0; few = length-decimal-le 10 n (omega arith) few fits; value_is = sym d.1 }

decimal_field : (c n : ℕ) → IsGap (c ∷ []) → n ≤ 65535 → IsField (c ∷ decimal n) n
decimal_field c n gap small = record { gap = c ∷ []; digits = decimal n; spelt = refl; is_gap = gap; is_number = decimal_is_number n small }

header_parts : (xs ys zs : List ℕ) → codes "P6\n" ++ xs ++ codes " " ++ ys ++ codes "\n" ++ zs ++ codes "\n" ≡ codes "P6" ++
    ((10 ∷ xs) ++ ((32 ∷ ys) ++ ((10 ∷ zs) ++ (10 ∷ []))))
header_parts xs ys zs = simp append_assoc

-- a list of seven parts is before another
parts_before : (a b c d e f g xs : List ℕ) → a ++ b ++ c ++ d ++ e ++ f ++ g ++ xs ≡ (a ++ b ++ c ++ d ++ e ++ f ++ g) ++ (xs ++ [])
parts_before a b c d e f g xs = simp (append_assoc, append-nil)

picture_header : (w h m : ℕ) → w ≤ 65535 → h ≤ 65535 → m ≤ 65535
    → IsHeader (codes "P6\n" ++ decimal w ++ codes " " ++ decimal h ++ codes "\n" ++ decimal m ++ codes "\n") w h m
picture_header w h m columns rows most = record {
  first = 10 ∷ decimal w;
  second = 32 ∷ decimal h;
  third = 10 ∷ decimal m;
  space = 10;
  spelt = header_parts (decimal w) (decimal h) (decimal m);
  width_field = decimal_field 10 w (white_is_gap 10 refl) columns;
  height_field = decimal_field 32 h (white_is_gap 32 refl) rows;
  maximum_field = decimal_field 10 m (white_is_gap 10 refl) most;
  white = refl;
}

picture_is_short : (xs ys zs : List ℕ) → length xs ≤ 10 → length ys ≤ 10 → length zs ≤ 10
    → length (codes "P6\n" ++ xs ++ codes " " ++ ys ++ codes "\n" ++ zs ++ codes "\n") ≤ 65536
picture_is_short xs ys zs few many some = simp length-append (omega arith)

pub written_image : (p : ImageView) → IsLawfulImage p → AreBytes p.samples → IsImage (picture_bytes p.depth p.width p.height p.samples) p
written_image p is bytes =
    let columns : p.width ≤ 65535 = omega (arith, is.few_columns) in
    let rows : p.height ≤ 65535 = omega (arith, is.few_rows) in
    let maximum : IsMaximum (greatest_sample p.depth) = greatest_is p.depth is.depth in
    record {
      text = codes "P6\n" ++ decimal p.width ++ codes " " ++ decimal p.height ++ codes "\n" ++ decimal (greatest_sample p.depth) ++ codes "\n";
      raster = p.samples;
      rest = [];
      maximum = greatest_sample p.depth;
      spelt = parts_before (codes "P6\n") (decimal p.width) (codes " ") (decimal p.height) (codes "\n") (decimal (greatest_sample p.depth))
          (codes "\n") p.samples;
      header = picture_header p.width p.height (greatest_sample p.depth) columns rows maximum.few;
      early = picture_is_short (decimal p.width) (decimal p.height) (decimal (greatest_sample p.depth)) (decimal_is_number p.width columns).few
          (decimal_is_number p.height rows).few (decimal_is_number (greatest_sample p.depth) maximum.few).few;
      lawful = maximum;
      depth_is = sym (depth_of_greatest p.depth is.depth);
      image = is;
      full = is.full;
      few = λ i inside. sample_few p.depth p.samples i is.depth bytes;
      kept = λ i inside. sym (kept_same p.depth (sample_at p.depth p.samples i) is.depth);
      bytes = bytes;
    }

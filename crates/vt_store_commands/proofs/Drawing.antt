-- The file of a picture, from what it was encoded of.
use Rattle.std.proofs.Common.{◌≡◌, ℕ, zero, suc, ◌+◌, ◌<◌, List, [], ◌∷◌, ◌++◌, refl, sym, ap, ◌∙◌, append_assoc, codes, decimal, arith}
use Rattle.std.specs.Prelude.{map}
use Rattle.std.specs.List.{range_with_len}
use Rattle.std.proofs.lemmas.List.FromFn.{map-range_with_len_more}
use Rattle.vt_definitions.specs.Depths.{greatest_sample}
use Rattle.vt_ppm.specs.Picture.{picture_header, picture_bytes}
use Rattle.vt_outside.specs.Expectations.{ExpectedFile}
use Rattle.vt_pictures.specs.Pictures.{expected_picture, expected_pictures}

-- the parts of a header are before samples
header_before : (xs ys zs samples : List ℕ) → (codes "P6\n" ++ xs ++ codes " " ++ ys ++ codes "\n" ++ zs ++ codes "\n") ++ samples
    ≡ codes "P6\n" ++ xs ++ codes " " ++ ys ++ codes "\n" ++ zs ++ codes "\n" ++ samples
header_before xs ys zs samples = simp append_assoc

-- a header, and samples behind it, are a picture's file
pub file_is : (d w h : ℕ) (bytes begun samples : List ℕ) → bytes ≡ begun ++ samples → begun ≡ picture_header d w h → bytes ≡ picture_bytes d w h samples
file_is d w h bytes begun samples drawn header =
    drawn ∙ ap (λ (l : List ℕ). l ++ samples) header ∙ header_before (decimal w) (decimal h) (decimal (greatest_sample d)) samples

-- pictures whose files are the same
pub pictures_alike : (prefix : List ℕ) (file other : ℕ → List ℕ) (n : ℕ) → ((i : ℕ) → i < n → file i ≡ other i)
    → expected_pictures prefix file n ≡ expected_pictures prefix other n
pictures_alike prefix file other zero same = refl
pictures_alike prefix file other (suc n) same =
    last file
    ∙ ap (λ (l : List ExpectedFile). l ++ expected_picture prefix file n ∷ []) (pictures_alike prefix file other n (λ i low. same i (omega (arith, low))))
    ∙ ap (λ (b : List ℕ). expected_pictures prefix other n ++ (record { name = (expected_picture prefix other n).name; bytes = b }) ∷ []) (same n (omega arith))
    ∙ sym (last other)
  where
    last : (f : ℕ → List ℕ) → expected_pictures prefix f (suc n) ≡ expected_pictures prefix f n ++ expected_picture prefix f n ∷ []
    last f = ap (λ (m : ℕ). map (expected_picture prefix f) (range_with_len 0 m)) (let e : suc n ≡ n + 1 = omega arith in e)
        ∙ map-range_with_len_more (expected_picture prefix f) 0 n n (omega arith)

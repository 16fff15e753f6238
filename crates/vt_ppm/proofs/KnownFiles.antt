-- What is found in the bytes that a file gives is so of its bytes, where it tells them.
use Rattle.std.proofs.Common.{◌≡◌, ℕ, ◌-◌, ◌*◌, ◌<◌, List, length, take, min, Option, Some, None, IfSome, Result, Ok, Err, IfOk, IfErr, ap, ◌∙◌, subst, arith}
use Rattle.vt_definitions.specs.Depths.{texel_length}
use Rattle.vt_definitions.specs.Limits.{header_limit}
use Rattle.vt_outside.specs.Files.{IsPiece}
use Rattle.vt_ppm.specs.declared.error.PpmError.{PpmError}
use Rattle.vt_ppm.specs.declared.error.PpmError.TheVariants.{Truncated, SampleOver}
use Rattle.vt_ppm.specs.declared.header.Header.{Header}
use Rattle.vt_ppm.specs.Format.{IsImageUpTo, AreUpTo, depth_of}
use Rattle.vt_ppm.specs.Image.{ImageView}
use Rattle.vt_ppm.specs.Flaws.{IsLawfulHeader, IsFlawUpTo}
use Rattle.vt_ppm.specs.Reads.{IsImagePrefix}
use Rattle.vt_ppm.specs.Refusals.{IsPpmOutsideRefusal, IsRasterRefusal}
use Rattle.vt_ppm.specs.Samples.{IsOverAt, IsRasterImage}
use Rattle.vt_ppm.proofs.Rasters.{head_is, lawful_header, flaw_of_head, image_is, sample_over, truncated}

-- the front that was read is that of the file
pub front_known : (o o1 : Option (List ℕ)) (front : List ℕ) (n : ℕ) → o1 ≡ o → IfSome o (λ b. n ≡ length b) → IfSome o1 (λ b. IsPiece b 0 front)
    → length front ≡ min n header_limit → IfSome o (λ b. IsImagePrefix b n front)
front_known None o1 front n e known piece len = tt
front_known (Some b) o1 front n e known piece len =
    let here : IsPiece b 0 front = subst (λ o. IfSome o (λ b. IsPiece b 0 front)) e piece in
    record { len_is = known; front_is = head_is b front n known (here.same ∙ ap (λ k. take k b) len) }

-- what the front holds is so of the whole
module _ (most : ℕ) (o : Option (List ℕ)) (n : ℕ) (front : List ℕ) (is : IfSome o (λ b. IsImagePrefix b n front)) where
  pub header_known : (r w h m : ℕ) → IsLawfulHeader most front r w h m → IfSome o (λ b. IsLawfulHeader most b r w h m)
  header_known r w h m l = known o is
    where
      known : (o : Option (List ℕ)) → IfSome o (λ b. IsImagePrefix b n front) → IfSome o (λ b. IsLawfulHeader most b r w h m)
      known None f = tt
      known (Some b) f = lawful_header most b front f.front_is r w h m l

  pub flaw_known : (e : PpmError) → (IsRasterRefusal e → ⊥) → IsFlawUpTo most front e → IfSome o (λ b. IsFlawUpTo most b e)
  flaw_known e other flaw = known o is
    where
      known : (o : Option (List ℕ)) → IfSome o (λ b. IsImagePrefix b n front) → IfSome o (λ b. IsFlawUpTo most b e)
      known None f = tt
      known (Some b) f = flaw_of_head most b front f.front_is e other flaw

  pub answer_known : (r : Result Header PpmError) → IfErr r (λ e. IsRasterRefusal e → ⊥) → IfErr r (λ e. IsFlawUpTo most front e)
      → IfErr r (λ e. (IsPpmOutsideRefusal e → ⊥) → IfSome o (λ b. IsFlawUpTo most b e))
  answer_known (Ok h) other flaw = tt
  answer_known (Err e) other flaw = λ _. flaw_known e other flaw

  pub header_answer_known : (r : Result Header PpmError) → IfOk r (λ h. IsLawfulHeader most front h.raster h.width h.height h.maximum)
      → IfOk r (λ h. IfSome o (λ b. IsLawfulHeader most b h.raster h.width h.height h.maximum))
  header_answer_known (Ok h) l = header_known h.raster h.width h.height h.maximum l
  header_answer_known (Err e) l = tt

-- what is found with the header of the front is so of the file
module _ (most : ℕ) (o : Option (List ℕ)) (n r w h m : ℕ) (front : List ℕ) (is : IfSome o (λ b. IsImagePrefix b n front))
    (header : IsLawfulHeader most front r w h m) where
  known : IfSome o (λ b. IsLawfulHeader most b r w h m)
  known = header_known most o n front is r w h m header

  -- the file has too few bytes for the raster
  pub truncated_known : (want have : ℕ) → length front ≡ min n header_limit → want ≡ texel_length (depth_of m) * (w * h) → have ≡ n - r → have < want
      → IfSome o (λ b. IsFlawUpTo most b (Truncated want have))
  truncated_known want have few ew eh short = found o is known
    where
      found : (o : Option (List ℕ)) → IfSome o (λ b. IsImagePrefix b n front) → IfSome o (λ b. IsLawfulHeader most b r w h m)
          → IfSome o (λ b. IsFlawUpTo most b (Truncated want have))
      found None f l = tt
      found (Some b) f l = truncated most b r w h m want have l ew (omega (arith, f.len_is, few, header.sized.header.within, eh)) short

  -- the first sample above the maximum is that of the file
  pub over_known : (o1 : Option (List ℕ)) (raster : List ℕ) (at : ℕ) → o1 ≡ o → IfSome o1 (λ b. IsPiece b r raster)
      → length raster ≡ texel_length (depth_of m) * (w * h) → IsOverAt r m (3 * (w * h)) raster at → IfSome o (λ b. IsFlawUpTo most b (SampleOver at))
  over_known o1 raster at e piece full over = found o known (subst (λ o. IfSome o (λ b. IsPiece b r raster)) e piece)
    where
      found : (o : Option (List ℕ)) → IfSome o (λ b. IsLawfulHeader most b r w h m) → IfSome o (λ b. IsPiece b r raster)
          → IfSome o (λ b. IsFlawUpTo most b (SampleOver at))
      found None l p = tt
      found (Some b) l p = sample_over most b raster r w h m l p full at over

  -- the image that was made of the raster is the file's
  pub image_known : (o1 : Option (List ℕ)) (raster : List ℕ) (p : ImageView) → o1 ≡ o → IfSome o1 (λ b. IsPiece b r raster)
      → length raster ≡ texel_length (depth_of m) * (w * h) → AreUpTo (depth_of m) m (3 * (w * h)) raster → IsRasterImage w h m raster p
      → IfSome o (λ b. IsImageUpTo most b p)
  image_known o1 raster p e piece full few image = found o known (subst (λ o. IfSome o (λ b. IsPiece b r raster)) e piece)
    where
      found : (o : Option (List ℕ)) → IfSome o (λ b. IsLawfulHeader most b r w h m) → IfSome o (λ b. IsPiece b r raster)
          → IfSome o (λ b. IsImageUpTo most b p)
      found None l piece = tt
      found (Some b) l piece = image_is most b raster r w h m l piece full p few image

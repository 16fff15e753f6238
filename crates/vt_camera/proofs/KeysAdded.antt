-- What adding the pictures of a line's key answers, from what adding its cameras does.
use Rattle.std.proofs.Common.{◌≡◌, ℕ, zero, suc, ◌+◌, ◌<◌, List, [], ◌∷◌, ◌++◌, length, Option, Some, None, Result, Ok, Err, inl, inr, ◌⊎◌, refl, sym, ap, ◌∙◌, subst, arith}
use Rattle.std.specs.Prelude.{MatchResult}
use Rattle.vt_camera.specs.declared.paths.Camera.{Camera}
use Rattle.vt_camera.specs.declared.parse.LineKey.{LineKey}
use Rattle.vt_camera.specs.declared.parse.PathError.{PathError}
use Rattle.vt_camera.specs.declared.parse.PathError.TheVariants.{NoKey, NoMemory}
use Rattle.vt_camera.specs.Ways.{way}
use Rattle.vt_camera.specs.PathText.{At, To, key_cameras}
use Rattle.vt_camera.specs.PathFlaws.{IsKeyLine, IsLineFlaw, count_flaw, key_flaw}
use Rattle.vt_camera.specs.PathReading.{AddsKey, IsLast, key_of}

-- the key of a line, where its parts are told
pub said_key : (line : List ℕ) (spelled key : LineKey) → spelled ≡ key → IsKeyLine line (key_of spelled) → IsKeyLine line (key_of key)
said_key line spelled key e said = subst (λ (k : LineKey). IsKeyLine line (key_of k)) e said

-- the camera before it, and that there is a picture
pub last_is : (last : Option Camera) (from : Camera) (before : ℕ) → last ≡ Some from → IsLast last before → IsLast (Some from) before
last_is last from before e is = subst (λ (l : Option Camera). IsLast l before) e is

way_flaw : (number before pictures : ℕ) (camera : Camera) → 0 < before → key_flaw number before (To pictures camera) ≡ count_flaw (before + pictures)
way_flaw number zero pictures camera some = absurd (let no : ⊥ = omega arith in no)
way_flaw number (suc before) pictures camera some = refl

pub no_key : (number before : ℕ) (line : List ℕ) (pictures : ℕ) (camera : Camera) (last : Option Camera) → IsKeyLine line (To pictures camera)
    → last ≡ None → IsLast last before → IsLineFlaw number before line (NoKey number)
no_key number before line pictures camera last said none is =
    let zero_is : before ≡ 0 = subst (λ (l : Option Camera). IsLast l before) none is in
    inr (To pictures camera, said, ap (λ (n : ℕ). key_flaw number n (To pictures camera)) zero_is)

pub single_added : (number : ℕ) (line : List ℕ) (last : Option Camera) (before after : List Camera) (camera : Camera) (added : Result Camera PathError)
    → IsKeyLine line (At camera)
    → MatchResult added (λ c. (c ≡ camera) × (after ≡ before ++ camera ∷ []) × (count_flaw (length before + 1) ≡ None))
    (λ e. (e ≡ NoMemory) ⊎ (count_flaw (length before + 1) ≡ Some e))
    → MatchResult added (λ c. AddsKey number line last before after c) (λ e. (e ≡ NoMemory) ⊎ IsLineFlaw number (length before) line e)
single_added number line last before after camera (Ok c) said is = record { key = At camera; said = said; accepted = is.2; ends = is.0; given = is.1 }
single_added number line last before after camera (Err e) said (inl memory) = inl memory
single_added number line last before after camera (Err e) said (inr flaw) = inr (inr (At camera, said, flaw))

pub steps_added : (number : ℕ) (line : List ℕ) (last : Option Camera) (before after : List Camera) (from camera : Camera) (pictures : ℕ)
    (added : Result Camera PathError) → IsKeyLine line (To pictures camera) → last ≡ Some from → 0 < length before
    → MatchResult added (λ c. (c ≡ camera) × (after ≡ before ++ way from camera pictures) × (count_flaw (length before + pictures) ≡ None))
    (λ e. (e ≡ NoMemory) ⊎ (count_flaw (length before + pictures) ≡ Some e))
    → MatchResult added (λ c. AddsKey number line last before after c) (λ e. (e ≡ NoMemory) ⊎ IsLineFlaw number (length before) line e)
steps_added number line last before after from camera pictures (Ok c) said e some is = record {
  key = To pictures camera;
  said = said;
  accepted = way_flaw number (length before) pictures camera some ∙ is.2;
  ends = is.0;
  given = is.1 ∙ ap (λ (l : Option Camera). before ++ key_cameras l (To pictures camera)) (sym e);
}
steps_added number line last before after from camera pictures (Err x) said e some (inl memory) = inl memory
steps_added number line last before after from camera pictures (Err x) said e some (inr flaw) =
    inr (inr (To pictures camera, said, way_flaw number (length before) pictures camera some ∙ flaw))

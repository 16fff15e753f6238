-- What the reading of a path's lines finds, before a path is made of it.
use Rattle.std.specs.Prelude.{◌≡◌, ◌≢◌, ℕ, ◌+◌, ◌<◌, ◌≤◌, List, [], ◌∷◌, ◌++◌, map, length, drop, ℤ, Option, Some, None, slice_get, MatchOption, All}
use Rattle.std.specs.List.{join_with_byte}
use Rattle.vt_text.specs.Limits.{most_pictures, blank}
use Rattle.vt_text.specs.Numbers.{number_spelling, spelling, IsWithin}
use Rattle.vt_text.specs.Lines.{fields_of, lines_of}
use Rattle.vt_camera.specs.declared.paths.Camera.{Camera}
use Rattle.vt_camera.specs.declared.parse.LineKey.{LineKey}
use Rattle.vt_camera.specs.declared.parse.LineKey.TheVariants.{Single, Steps}
use Rattle.vt_camera.specs.Paths.{IsCamera}
use Rattle.vt_camera.specs.PathText.{Key, At, To, IsKey, key_fields, key_camera, key_cameras, cameras_after, BeginsAnew}
use Rattle.vt_camera.specs.PathFlaws.{IsSizeLine, IsFocalLine, IsKeyLine, key_flaw}

-- a field of a line is a natural number from 1 up to a limit, or no such number
abbrev pub IsNaturalAt : List ℕ → ℕ → ℕ → Option ℕ → Type 0
IsNaturalAt line i most found = MatchOption found ((n : ℕ) → 1 ≤ n → n ≤ most → slice_get (fields_of line) i ≢ Some (number_spelling n))
    (λ n. (1 ≤ n) × (n ≤ most) × (slice_get (fields_of line) i ≡ Some (number_spelling n)))

-- a field of a line is an integer within bounds, or no such integer
abbrev pub IsIntegerAt : List ℕ → ℕ → ℤ → ℤ → Option ℤ → Type 0
IsIntegerAt line i least most found = MatchOption found ((z : ℤ) → IsWithin least most z → slice_get (fields_of line) i ≢ Some (spelling z))
    (λ z. IsWithin least most z × (slice_get (fields_of line) i ≡ Some (spelling z)))

-- a camera's numbers are in a line from a field on
pub record AreNumbersAt (line : List ℕ) (i : ℕ) (camera : Camera) : Type 0 where
  pub u : slice_get (fields_of line) i ≡ Some (spelling camera.u)
  pub v : slice_get (fields_of line) (i + 1) ≡ Some (spelling camera.v)
  pub h : slice_get (fields_of line) (i + 2) ≡ Some (spelling camera.h)
  pub c : slice_get (fields_of line) (i + 3) ≡ Some (spelling camera.c)
  pub s : slice_get (fields_of line) (i + 4) ≡ Some (spelling camera.s)

-- the key that the reading of a line answers
abbrev pub key_of : LineKey → Key
key_of (Single camera) = At camera
key_of (Steps pictures camera) = To pictures camera

-- the first two lines of a text give these sides and this focal number, and end before this place
pub record IsHead (text : List ℕ) (width height focal end : ℕ) : Type 0 where
  pub within : end ≤ length text
  pub first : List ℕ
  pub second : List ℕ
  pub cut : lines_of text ≡ first ∷ second ∷ lines_of (drop end text)
  pub sides : IsSizeLine first width height
  pub focus : IsFocalLine second focal

-- the camera of the last key, or none exactly where there is no picture so far
abbrev pub IsLast : Option Camera → ℕ → Type 0
IsLast None before = before ≡ 0
IsLast (Some camera) before = IsCamera camera × (0 < before)

-- the line gives a key that is accepted, and its cameras come after those before them
pub record AddsKey (number : ℕ) (line : List ℕ) (last : Option Camera) (before after : List Camera) (camera : Camera) : Type 0 where
  pub key : Key
  pub said : IsKeyLine line key
  pub accepted : key_flaw number (length before) key ≡ None
  pub ends : camera ≡ key_camera key
  pub given : after ≡ before ++ key_cameras last key

-- lines that give these cameras, by keys, after the camera of a key or none and so many pictures
pub record GiveCameras (last : Option Camera) (before : ℕ) (lines : List (List ℕ)) (cameras : List Camera) : Type 0 where
  pub keys : List Key
  pub spelled : lines ≡ map (join_with_byte blank) (map key_fields keys) ++ ([] ∷ [])
  pub each : All IsKey keys
  pub first : before ≡ 0 → BeginsAnew keys
  pub given : cameras ≡ cameras_after last keys

-- all lines after the second give these cameras, which are within their limits, as is their number
pub record GivesPictures (lines : List (List ℕ)) (cameras : List Camera) : Type 0 where
  pub by_keys : GiveCameras None 0 lines cameras
  pub few : length cameras ≤ most_pictures
  pub each : All IsCamera cameras

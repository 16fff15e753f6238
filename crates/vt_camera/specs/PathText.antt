-- The text of a path: lines of fields, one line for the sides, one for the focal number, and one for each key.
use Rattle.std.specs.Prelude.{◌≡◌, ℕ, ◌≤◌, Option, Some, None, ◌++◌, List, [], ◌∷◌, map, codes, All}
use Rattle.vt_text.specs.Limits.{most_pictures}
use Rattle.vt_text.specs.Lines.{text_of}
use Rattle.vt_text.specs.Numbers.{number_spelling, spelling}
use Rattle.vt_camera.specs.declared.paths.Camera.{Camera}
use Rattle.vt_camera.specs.Ways.{way}
use Rattle.vt_camera.specs.Paths.{PathView, IsCamera, IsPath}

-- what a line from the third on stands for: a picture's camera, or a number of pictures on the way to one
pub data Key : Type 0 where
  At : Camera → Key
  To : ℕ → Camera → Key

-- the fields of the first line of a path: the sides of its pictures
abbrev pub size_fields : ℕ → ℕ → List (List ℕ)
size_fields width height = codes "size" ∷ number_spelling width ∷ number_spelling height ∷ []

-- the fields of the second line: the focal number
abbrev pub focal_fields : ℕ → List (List ℕ)
focal_fields focal = codes "focal" ∷ number_spelling focal ∷ []

-- the fields of a camera's numbers
abbrev pub number_fields : Camera → List (List ℕ)
number_fields camera = spelling camera.u ∷ spelling camera.v ∷ spelling camera.h ∷ spelling camera.c ∷ spelling camera.s ∷ []

-- the fields of a line that gives one picture: its camera
abbrev pub camera_fields : Camera → List (List ℕ)
camera_fields camera = codes "at" ∷ number_fields camera

-- the fields of a line that gives pictures on the way from the key before it: their number and the last camera
abbrev pub way_fields : ℕ → Camera → List (List ℕ)
way_fields pictures camera = codes "to" ∷ number_spelling pictures ∷ number_fields camera

-- the fields of a key's line
abbrev pub key_fields : Key → List (List ℕ)
key_fields (At camera) = camera_fields camera
key_fields (To pictures camera) = way_fields pictures camera

-- the numbers of a key are within their limits
abbrev pub IsKey : Key → Type 0
IsKey (At camera) = IsCamera camera
IsKey (To pictures camera) = (1 ≤ pictures) × (pictures ≤ most_pictures) × IsCamera camera

-- the camera that a key ends at
abbrev pub key_camera : Key → Camera
key_camera (At camera) = camera
key_camera (To pictures camera) = camera

-- how many pictures a key gives
abbrev pub key_pictures : Key → ℕ
key_pictures (At camera) = 1
key_pictures (To pictures camera) = pictures

-- the cameras that a key gives after the camera of the key before it; no key goes on from none
abbrev pub key_cameras : Option Camera → Key → List Camera
key_cameras last (At camera) = camera ∷ []
key_cameras (Some last) (To pictures camera) = way last camera pictures
key_cameras None (To pictures camera) = []

-- the cameras that keys give after the camera of a key, or from the first key on
abbrev pub cameras_after : Option Camera → List Key → List Camera
cameras_after last [] = []
cameras_after last (key ∷ keys) = key_cameras last key ++ cameras_after (Some (key_camera key)) keys

-- the cameras that keys give, one to a picture
abbrev pub cameras_of : List Key → List Camera
cameras_of keys = cameras_after None keys

-- the first key goes on from no other
abbrev pub BeginsAnew : List Key → Type 0
BeginsAnew [] = Unit {0}
BeginsAnew (At camera ∷ keys) = Unit {0}
BeginsAnew (To pictures camera ∷ keys) = ⊥

-- the lines of a path
abbrev pub path_lines : ℕ → ℕ → ℕ → List Key → List (List (List ℕ))
path_lines width height focal keys = size_fields width height ∷ focal_fields focal ∷ map key_fields keys

-- the text of a path with these numbers and keys
abbrev pub path_text : ℕ → ℕ → ℕ → List Key → List ℕ
path_text width height focal keys = text_of (path_lines width height focal keys)

-- the text is that of the path by these keys
pub record IsPathBy (text : List ℕ) (path : PathView) (keys : List Key) : Type 0 where
  pub spelled : text ≡ path_text path.width path.height path.focal keys
  pub within : IsPath path
  pub each : All IsKey keys
  pub first : BeginsAnew keys
  pub cameras : path.cameras ≡ cameras_of keys

-- the text is that of the path, by some keys
abbrev pub IsPathText : List ℕ → PathView → Type 0
IsPathText text path = (keys : List Key) × IsPathBy text path keys

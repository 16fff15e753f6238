-- The first flawed line of a path's text.
use Rattle.std.specs.Prelude.{◌≡◌, ◌≢◌, ℕ, zero, suc, ◌+◌, nat_le, if◌then◌else◌, List, [], ◌∷◌, Option, Some, None, ◌⊎◌}
use Rattle.vt_text.specs.Limits.{most_pictures}
use Rattle.vt_text.specs.Lines.{fields_of, lines_of}
use Rattle.vt_camera.specs.declared.parse.PathError.{PathError}
use Rattle.vt_camera.specs.declared.parse.PathError.TheVariants.{BadLine, NoKey, TooManyPictures}
use Rattle.vt_camera.specs.Paths.{ArePictureSides, IsFocal}
use Rattle.vt_camera.specs.PathText.{Key, At, To, IsKey, key_fields, key_pictures, size_fields, focal_fields}

-- the line gives these sides
abbrev pub IsSizeLine : List ℕ → ℕ → ℕ → Type 0
IsSizeLine line width height = ArePictureSides width height × (fields_of line ≡ size_fields width height)

-- the line gives this focal number
abbrev pub IsFocalLine : List ℕ → ℕ → Type 0
IsFocalLine line focal = IsFocal focal × (fields_of line ≡ focal_fields focal)

-- the line gives this key
abbrev pub IsKeyLine : List ℕ → Key → Type 0
IsKeyLine line key = IsKey key × (fields_of line ≡ key_fields key)

-- the refusal of so many pictures in all, or none
abbrev pub count_flaw : ℕ → Option PathError
count_flaw pictures = if nat_le pictures most_pictures then None else Some TooManyPictures

-- the refusal of a key in the line of this number, after so many pictures, or none; after no picture there is no key to go on from
abbrev pub key_flaw : ℕ → ℕ → Key → Option PathError
key_flaw number before (At camera) = count_flaw (before + 1)
key_flaw number zero (To pictures camera) = Some (NoKey number)
key_flaw number (suc before) (To pictures camera) = count_flaw (suc before + pictures)

-- the refusal of a line of this number, after so many pictures: it gives no key, or one that is refused
abbrev pub IsLineFlaw : ℕ → ℕ → List ℕ → PathError → Type 0
IsLineFlaw number before line e =
    (((key : Key) → ¬ IsKeyLine line key) × (e ≡ BadLine number)) ⊎ ((key : Key) × IsKeyLine line key × (key_flaw number before key ≡ Some e))

-- the first refusal of these lines, of which the first has this number and comes after so many pictures; nothing may follow the last line feed
abbrev pub IsPathFlawFrom : ℕ → ℕ → List (List ℕ) → PathError → Type 0
IsPathFlawFrom number before [] e = ⊥
IsPathFlawFrom number before (rest ∷ []) e = (rest ≢ []) × (e ≡ BadLine number)
IsPathFlawFrom number before (line ∷ next ∷ lines) e =
    IsLineFlaw number before line e
    ⊎ ((key : Key) × IsKeyLine line key × (key_flaw number before key ≡ None) × IsPathFlawFrom (number + 1) (before + key_pictures key) (next ∷ lines) e)

-- the first refusal of the lines from the second on: it is missing or gives no focal number, or a later line is refused
abbrev pub IsFlawFromSecond : List (List ℕ) → PathError → Type 0
IsFlawFromSecond [] e = ⊥
IsFlawFromSecond (rest ∷ []) e = e ≡ BadLine 2
IsFlawFromSecond (line ∷ next ∷ lines) e =
    (((focal : ℕ) → ¬ IsFocalLine line focal) × (e ≡ BadLine 2)) ⊎ ((focal : ℕ) × IsFocalLine line focal × IsPathFlawFrom 3 0 (next ∷ lines) e)

-- the first refusal of the lines of a path: the first is missing or gives no sides, or a later line is refused
abbrev pub IsFlawFromFirst : List (List ℕ) → PathError → Type 0
IsFlawFromFirst [] e = ⊥
IsFlawFromFirst (rest ∷ []) e = e ≡ BadLine 1
IsFlawFromFirst (line ∷ next ∷ lines) e =
    (((width height : ℕ) → ¬ IsSizeLine line width height) × (e ≡ BadLine 1)) ⊎
    ((width : ℕ) × (height : ℕ) × IsSizeLine line width height × IsFlawFromSecond (next ∷ lines) e)

-- the text has a flawed line, and the first is refused in this way
abbrev pub IsPathFlaw : List ℕ → PathError → Type 0
IsPathFlaw text e = IsFlawFromFirst (lines_of text) e

-- What a folder holds of a walk.
use Rattle.std.specs.Prelude.{◌≡◌, ℕ, false, List, [], ◌∷◌, length}
use Rattle.vt_outside.specs.Files.{Files, with_bytes}
use Rattle.vt_pictures.specs.Names.{picture_name, is_picture_name}
use Rattle.vt_walk.specs.Walks.{WalkNames}

-- the folder with these pictures, the newest first in the list, each under its name
abbrev pub with_pictures : List ℕ → List (List ℕ) → Files → Files
with_pictures prefix [] files = files
with_pictures prefix (bytes ∷ pictures) files = with_bytes (picture_name prefix (length pictures)) bytes (with_pictures prefix pictures files)

-- and with the journal's text
abbrev pub with_walk : WalkNames → List ℕ → List (List ℕ) → Files → Files
with_walk names text pictures files = with_bytes names.journal text (with_pictures names.prefix pictures files)

-- the journal's name is that of no picture
abbrev pub IsApart : WalkNames → Type 0
IsApart names = is_picture_name names.prefix names.journal ≡ false

-- The pictures that a command is to leave, each under its name.
use Rattle.std.specs.Prelude.{ℕ, List, map}
use Rattle.std.specs.List.{range_with_len}
use Rattle.vt_pictures.specs.Names.{picture_name}
use Rattle.vt_outside.specs.Expectations.{ExpectedFile}

-- a picture of a number, under its name
abbrev pub expected_picture : List ℕ → (ℕ → List ℕ) → ℕ → ExpectedFile
expected_picture prefix file picture = record { name = picture_name prefix picture; bytes = file picture }

-- so many pictures from the first on
abbrev pub expected_pictures : List ℕ → (ℕ → List ℕ) → ℕ → List ExpectedFile
expected_pictures prefix file count = map (expected_picture prefix file) (range_with_len 0 count)

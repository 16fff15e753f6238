-- What is wrong with an input, and how it is printed.
use Rattle.std.specs.Prelude.{ℕ, List, ◌++◌, codes, Result, Ok, Err}
use Rattle.vt_outside.specs.declared.answers.OutsideError.{OutsideError}
use Rattle.vt_outside.specs.declared.answers.OutsideError.TheVariants as outside
use Rattle.vt_command_words.specs.TextNumbers.{number_spelling}
use Rattle.vt_ppm.specs.declared.error.PpmError.{PpmError}
use Rattle.vt_ppm.specs.declared.error.PpmError.TheVariants as ppm
use Rattle.vt_camera.specs.declared.parse.PathError.{PathError}
use Rattle.vt_camera.specs.declared.parse.PathError.TheVariants as path
use Rattle.vt_tiles.specs.declared.error.StoreError.{StoreError}
use Rattle.vt_tiles.specs.declared.error.StoreError.TheVariants as store
use Rattle.vt_command_inputs.specs.declared.flaws.Flaw.{Flaw}
use Rattle.vt_command_inputs.specs.declared.flaws.Flaw.TheVariants as flaws

-- the flaw of a path that is refused, or what the outside refused
abbrev pub flaw_of_path : PathError → Result Flaw OutsideError
flaw_of_path (path.BadLine line) = Ok (flaws.BadLine line)
flaw_of_path (path.NoKey line) = Ok (flaws.NoKey line)
flaw_of_path path.TooManyPictures = Ok flaws.TooManyPictures
flaw_of_path path.NoMemory = Err outside.NoMemory

-- the flaw of a texture that is refused, or what the outside refused
abbrev pub flaw_of_texture : PpmError → Result Flaw OutsideError
flaw_of_texture ppm.BadMagic = Ok flaws.BadMagic
flaw_of_texture (ppm.BadHeader at) = Ok (flaws.BadHeader at)
flaw_of_texture ppm.BadSize = Ok flaws.BadSize
flaw_of_texture ppm.BadMaximum = Ok flaws.BadMaximum
flaw_of_texture (ppm.Truncated want have) = Ok (flaws.Truncated want have)
flaw_of_texture (ppm.SampleOver at) = Ok (flaws.SampleOver at)
flaw_of_texture ppm.Failed = Err outside.Failed
flaw_of_texture ppm.NoMemory = Err outside.NoMemory

-- the flaw of a store that is refused, or what the outside refused
abbrev pub flaw_of_store : StoreError → Result Flaw OutsideError
flaw_of_store store.BadMagic = Ok flaws.BadMagic
flaw_of_store store.BadGeometry = Ok flaws.BadGeometry
flaw_of_store (store.WrongLength want have) = Ok (flaws.WrongLength want have)
flaw_of_store store.Failed = Err outside.Failed
flaw_of_store store.NoMemory = Err outside.NoMemory

-- the place of a flaw as it is printed
abbrev pub flaw_place : Flaw → List ℕ
flaw_place (flaws.BadLine line) = codes "bad line " ++ number_spelling line
flaw_place (flaws.NoKey line) = codes "no key at line " ++ number_spelling line
flaw_place flaws.TooManyPictures = codes "too many pictures"
flaw_place flaws.BadMagic = codes "bad magic"
flaw_place (flaws.BadHeader at) = codes "bad header at byte " ++ number_spelling at
flaw_place flaws.BadSize = codes "bad size"
flaw_place flaws.BadMaximum = codes "bad maximum"
flaw_place (flaws.Truncated want have) = codes "raster of " ++ (number_spelling have ++ (codes " bytes, wanted " ++ number_spelling want))
flaw_place (flaws.SampleOver at) = codes "sample over maximum at byte " ++ number_spelling at
flaw_place (flaws.TooManyPages pages) = codes "too many pages " ++ number_spelling pages
flaw_place flaws.BadGeometry = codes "bad geometry"
flaw_place (flaws.WrongLength want have) = codes "length " ++ (number_spelling have ++ (codes ", wanted " ++ number_spelling want))
flaw_place flaws.AlreadyWide = codes "already wide"

-- The files of plain pictures, one behind the other in one room.
use Rattle.std.specs.Prelude.{◌≡◌, ℕ, ◌+◌, ◌-◌, ◌*◌, ◌<◌, ◌≤◌, List, length, take, Result, Ok, Err}
use Rattle.std.specs.List.{flat_map, range_with_len}
use Rattle.vt_definitions.specs.Depths.{texel_length}
use Rattle.vt_outside.specs.declared.answers.OutsideError.{OutsideError}
use Rattle.vt_ppm.specs.Picture.{picture_header, picture_bytes}
use Rattle.vt_camera.specs.Paths.{PathView, camera_at}
use Rattle.vt_plain.specs.declared.plain.Levels.{Levels}
use Rattle.vt_plain.specs.Plain.{plain_picture}
use Rattle.vt_plain.specs.Views.{AreLevels, WantsNone, source_of}
use Rattle.vt_plain.specs.BlendedPlain.{plain_blends}
use Rattle.vt_command_words.specs.declared.filters.Filtering.{Filtering}
use Rattle.vt_command_words.specs.declared.filters.Filtering.TheVariants.{Nearest, Bilinear}
use Rattle.vt_outside.specs.Effects.{FolderState, FolderEffect}
use Rattle.vt_outside.specs.Expectations.{Writes}
use Rattle.vt_pictures.specs.Pictures.{expected_pictures}
use Rattle.vt_store_commands.specs.declared.plain_files.PlainPictures.{PlainPictures}

-- the samples of a picture by a filter: of the levels that are there by the nearest texel, and of the whole chain by a blend
abbrev pub samples_with : Filtering → Levels → PathView → ℕ → List ℕ
samples_with Nearest l path picture = plain_picture l.chain.now.base.depth (source_of l) l.surface path picture
samples_with Bilinear l path picture = plain_blends l.chain.now.base l.chain.now.tile path picture

-- the file of a picture (the Netpbm manual's P6 page)
abbrev pub file_with : Filtering → Levels → PathView → ℕ → List ℕ
file_with filter l path picture = picture_bytes l.chain.now.base.depth path.width path.height (samples_with filter l path picture)

abbrev pub picture_file_of : PlainPictures → ℕ → List ℕ
picture_file_of p picture = file_with p.filter p.levels p.path.now picture

-- the levels are there that the rows of a path's pictures want
pub record AreLevelsWanted (l : Levels) (path : PathView) : Type 0 where
  pub levels : AreLevels l
  pub wants : (picture : ℕ) → picture < length path.cameras → WantsNone l path (camera_at path picture)

-- the files of the pictures from one on to another
unfoldable pub files_between : (ℕ → List ℕ) → ℕ → ℕ → List ℕ
files_between file first end = flat_map file (range_with_len first (end - first))

-- how many bytes each file has
abbrev pub file_size : PlainPictures → ℕ
file_size p = length p.header.now + texel_length p.levels.chain.now.base.depth * (p.path.now.width * p.path.now.height)

-- the header is that of each file, and the levels are there
pub record ArePlainHeaders (p : PlainPictures) : Type 0 where
  pub wanted : AreLevelsWanted p.levels p.path.now
  pub header : p.header.now ≡ picture_header p.levels.chain.now.base.depth p.path.now.width p.path.now.height
  pub short : length p.header.now ≤ 64

-- there are pictures from one on to another, and so many bytes are exactly their files' room
pub record IsRoomForFiles (p : PlainPictures) (first end room : ℕ) : Type 0 where
  pub has : ArePlainHeaders p
  pub order : first ≤ end
  pub few : end ≤ length p.path.now.cameras
  pub full : room ≡ file_size p * (end - first)

-- and their files fit into so many bytes
pub record HaveRoomFor (p : PlainPictures) (first end room : ℕ) : Type 0 where
  pub has : ArePlainHeaders p
  pub order : first ≤ end
  pub few : end ≤ length p.path.now.cameras
  pub fits : file_size p * (end - first) ≤ room

-- a room begins with the files of the pictures from one on to another
pub record HoldsFiles (p : PlainPictures) (first end : ℕ) (room : List ℕ) : Type 0 where
  pub space : HaveRoomFor p first end (length room)
  pub files : take (file_size p * (end - first)) room ≡ files_between (picture_file_of p) first end

-- the pictures up to one are written, or what writing all of them may leave
abbrev pub Reaches : List ℕ → (ℕ → List ℕ) → ℕ → ℕ → FolderState → FolderState → Result (Unit {0}) OutsideError → Type 0
Reaches prefix file end all before after (Ok _) = Writes {T = Unit {0}} (expected_pictures prefix file end) (record { before = before; after = after }) (Ok tt)
Reaches prefix file end all before after (Err error) = Writes {T = Unit {0}} (expected_pictures prefix file all) (record { before = before; after = after }) (Err error)

-- where the pictures before the first one were written, those up to another are, or some of them
abbrev pub WritesOn : List ℕ → (ℕ → List ℕ) → ℕ → ℕ → ℕ → FolderEffect → Result (Unit {0}) OutsideError → Type 0
WritesOn prefix file first end all p result =
    (before : FolderState) → Writes {T = Unit {0}} (expected_pictures prefix file first) (record { before = before; after = p.before }) (Ok tt)
    → Reaches prefix file end all before p.after result

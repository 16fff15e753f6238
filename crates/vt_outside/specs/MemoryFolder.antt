-- What a folder in memory is, as callers speak of it.
use Rattle.std.specs.Prelude.{◌≡◌, ℕ, Bool, List, [], None, Some, is_none}
use Rattle.vt_outside.specs.ClosedFiles.{places_in}
use Rattle.vt_outside.specs.FileMaps.{held_in_map}
use Rattle.vt_outside.specs.Fails.{is_listed}
use Rattle.vt_outside.specs.Files.{Files, Asked}
use Rattle.vt_outside.specs.MemoryFile.{IsFileUnread, file_bytes}
use Rattle.vt_outside.specs.declared.fails.Fail.{Fail}
use Rattle.vt_outside.specs.declared.fails.Fail.TheVariants.{Open, Create, Append}
use Rattle.vt_outside.specs.declared.memory_file.MemoryFile.{MemoryFile}
use Rattle.vt_outside.specs.declared.memory_folder.MemoryFolder.{MemoryFolder}

-- no name is there
abbrev pub no_files : Files
no_files = λ q. None

-- no place was asked of any name
abbrev pub no_places : Asked
no_places = λ q. []

-- the bytes of each name
abbrev pub memory_files : MemoryFolder → Files
memory_files folder = held_in_map folder.entries

-- the places asked of each name by files that were closed, in the order of closing
abbrev pub asked_of : MemoryFolder → Asked
asked_of folder = places_in folder.closed

-- the calls that are to fail
abbrev pub fails_of : MemoryFolder → List Fail
fails_of folder = folder.fails.elements

-- how many calls of `open` there were
abbrev pub opens_of : MemoryFolder → ℕ
opens_of folder = folder.opens

-- how many of them succeeded
abbrev pub openings_of : MemoryFolder → ℕ
openings_of folder = folder.openings

-- how many calls of `create` there were
abbrev pub creates_of : MemoryFolder → ℕ
creates_of folder = folder.creates

-- how many calls of `append` there were
abbrev pub appends_of : MemoryFolder → ℕ
appends_of folder = folder.appends

-- how many faults it has met
abbrev pub faults_of : MemoryFolder → ℕ
faults_of folder = folder.faults

-- the name is missing
abbrev pub is_missing : MemoryFolder → List ℕ → Bool
is_missing folder name = is_none (memory_files folder name)

-- the next call of `open` is in the list
abbrev pub is_open_listed : MemoryFolder → Bool
is_open_listed folder = is_listed (fails_of folder) (Open (opens_of folder))

-- the next call of `create` is in the list
abbrev pub is_create_listed : MemoryFolder → Bool
is_create_listed folder = is_listed (fails_of folder) (Create (creates_of folder))

-- the next call of `append` is in the list
abbrev pub is_append_listed : MemoryFolder → Bool
is_append_listed folder = is_listed (fails_of folder) (Append (appends_of folder))

-- a file of the name's bytes that was not read yet, with the folder's list and the number of openings so far
pub record IsOpenedMemory (folder : MemoryFolder) (name : List ℕ) (file : MemoryFile) : Type 0 where
  pub there : memory_files folder name ≡ Some (file_bytes file)
  pub unread : IsFileUnread file name (file_bytes file) (fails_of folder) (openings_of folder)

-- What a file in memory is, as callers speak of it.
use Rattle.std.specs.Prelude.{◌≡◌, ℕ, ◌+◌, ◌-◌, Bool, List, [], length, nat_lt, string_bytes, vec_len, vec_capacity}
use Rattle.vt_outside.specs.Fails.{is_listed}
use Rattle.vt_outside.specs.declared.place.Place.{Place}
use Rattle.vt_outside.specs.declared.fails.Fail.{Fail}
use Rattle.vt_outside.specs.declared.fails.Fail.TheVariants.{Length, Read}
use Rattle.vt_outside.specs.declared.memory_file.MemoryFile.{MemoryFile}

-- the name that was opened
abbrev pub file_name : MemoryFile → List ℕ
file_name file = string_bytes file.name

-- the bytes at its opening
abbrev pub file_bytes : MemoryFile → List ℕ
file_bytes file = file.bytes.items

-- the places asked of it, in order
abbrev pub file_places : MemoryFile → List Place
file_places file = file.places.items

-- how many more reads it can note
abbrev pub file_spare : MemoryFile → ℕ
file_spare file = vec_capacity file.places - vec_len file.places

-- the calls that are to fail
abbrev pub file_fails : MemoryFile → List Fail
file_fails file = file.fails.items

-- the number of its opening
abbrev pub file_opening : MemoryFile → ℕ
file_opening file = file.opening

-- how many reads were asked of it
abbrev pub file_reads : MemoryFile → ℕ
file_reads file = file.reads

-- how many faults it has met
abbrev pub file_faults : MemoryFile → ℕ
file_faults file = file.faults

-- so many bytes from a place on pass the end
abbrev pub passes_end : MemoryFile → ℕ → ℕ → Bool
passes_end file at len = nat_lt (length (file_bytes file)) (at + len)

-- the calls of `length` are in the list
abbrev pub is_length_listed : MemoryFile → Bool
is_length_listed file = is_listed (file_fails file) (Length (file_opening file))

-- the next read is in the list
abbrev pub is_read_listed : MemoryFile → Bool
is_read_listed file = is_listed (file_fails file) (Read (file_opening file) (file_reads file))

-- a file of these bytes that was opened by that name and not read yet
pub record IsFileUnread (file : MemoryFile) (name bytes : List ℕ) (fails : List Fail) (opening : ℕ) : Type 0 where
  pub named : file_name file ≡ name
  pub held : file_bytes file ≡ bytes
  pub no_places : file_places file ≡ []
  pub listed : file_fails file ≡ fails
  pub opened : file_opening file ≡ opening
  pub no_reads : file_reads file ≡ 0
  pub no_faults : file_faults file ≡ 0

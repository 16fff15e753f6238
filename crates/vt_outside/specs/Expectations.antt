-- What a command is to leave, and how far it came.
use Rattle.std.specs.Prelude.{◌≡◌, ◌⊎◌, ℕ, ◌≤◌, List, [], ◌∷◌, ◌++◌, take, Option, option_map, Result, Ok, Err}
use Rattle.vt_outside.specs.Counts.{Rose}
use Rattle.vt_outside.specs.Files.{Files, with_bytes, gained}
use Rattle.vt_outside.specs.declared.answers.OutsideError.{OutsideError}
use Rattle.vt_outside.specs.declared.answers.OutsideError.TheVariants.{Failed, NoMemory}
use Rattle.vt_outside.specs.Effects.{FolderEffect, SinkEffect, CallEffect}

-- a name and the bytes that it is to hold
pub record ExpectedFile : Type 0 where
  pub name : List ℕ
  pub bytes : List ℕ

-- the files in their order, and the text for the output
pub record Expected : Type 0 where
  pub files : List ExpectedFile
  pub text : List ℕ

-- the folder with these files, each written in order
abbrev pub with_files : List ExpectedFile → Files → Files
with_files [] files = files
with_files (file ∷ rest) files = with_files rest (with_bytes file.name file.bytes files)

-- each name holds the whole of its bytes, every other name what it held, and the output gained the text
pub record Done (expected : Expected) (c : CallEffect) : Type 0 where
  pub files : c.folder.after.files ≡ option_map (with_files expected.files) c.folder.before.files
  pub out : c.out.after.held ≡ option_map (gained expected.text) c.out.before.held

-- the first of the files may hold a prefix of its bytes
abbrev pub IsWrittenPrefix : List ExpectedFile → Option Files → Option Files → Type 0
IsWrittenPrefix [] before after = after ≡ before
IsWrittenPrefix (file ∷ rest) before after =
    (after ≡ before) ⊎ ((k : ℕ) × (after ≡ option_map (with_bytes file.name (take k file.bytes)) before))

-- some files are whole, the next one may hold a prefix of its bytes, and every other name holds what it held
pub record IsPart (files : List ExpectedFile) (before after : Option Files) : Type 0 where
  pub whole : List ExpectedFile
  pub rest : List ExpectedFile
  pub split : files ≡ whole ++ rest
  pub front : IsWrittenPrefix rest (option_map (with_files whole) before) after

-- the files exist so far, and the output gained a prefix of the text, and a byte of it only where all files are whole
pub record Stopped (expected : Expected) (c : CallEffect) : Type 0 where
  pub files : IsPart expected.files c.folder.before.files c.folder.after.files
  pub out : (c.out.after.held ≡ c.out.before.held)
      ⊎ ((c.folder.after.files ≡ option_map (with_files expected.files) c.folder.before.files)
      × (k : ℕ) × (c.out.after.held ≡ option_map (gained (take k expected.text)) c.out.before.held))

-- a call failed only where the fact holds
abbrev pub FailsOnly : Type 0 → OutsideError → Type 0
FailsOnly fact Failed = fact
FailsOnly fact NoMemory = Unit {0}

-- no place was asked, and the count did not fall
pub record AsksNone (p : FolderEffect) : Type 0 where
  pub asked : p.after.asked ≡ p.before.asked
  pub faults : p.before.faults ≤ p.after.faults

-- the files were written, or some of them
abbrev pub Writes : {T : Type 0} → List ExpectedFile → FolderEffect → Result T OutsideError → Type 0
Writes files p (Ok _) = AsksNone p × (p.after.files ≡ option_map (with_files files) p.before.files)
Writes files p (Err error) = AsksNone p × IsPart files p.before.files p.after.files × FailsOnly (Rose p.before.faults p.after.faults) error

-- the text was put, or a prefix of it
abbrev pub PutsText : {T : Type 0} → List ℕ → SinkEffect → Result T OutsideError → Type 0
PutsText text g (Ok _) = g.after.held ≡ option_map (gained text) g.before.held
PutsText text g (Err error) = ((k : ℕ) × (g.after.held ≡ option_map (gained (take k text)) g.before.held)) × FailsOnly (Rose g.before.faults g.after.faults) error

-- what is expected was left, or a part of it
abbrev pub Leaves : {T : Type 0} → Expected → CallEffect → Result T OutsideError → Type 0
Leaves expected c (Ok _) = AsksNone c.folder × Done expected c
Leaves expected c (Err error) = AsksNone c.folder × Stopped expected c
    × FailsOnly (Rose c.folder.before.faults c.folder.after.faults ⊎ Rose c.out.before.faults c.out.after.faults) error

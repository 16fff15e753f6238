-- How the reading of one input ends.
use Rattle.std.specs.Prelude.{◌≡◌, ◌⊎◌, ℕ, ◌≤◌, List, [], ◌++◌, Option, Some, option_map, Result, Ok, Err, IsSome, is_some, IfSome, OnSome}
use Rattle.vt_outside.specs.Counts.{Rose, added}
use Rattle.vt_outside.specs.Files.{bytes_at, with_places}
use Rattle.vt_outside.specs.declared.place.Place.{Place}
use Rattle.vt_outside.specs.declared.outside.File.{Ghosts as FileMeanings}
use Rattle.vt_ppm.specs.Strips.{MayBeOver, ChecksPieces, GainsRows, IsTextureHeader, IsTextureIfKnown}
use Rattle.vt_ppm.specs.declared.error.PpmError.{PpmError}
use Rattle.vt_ppm.specs.declared.header.Header.{Header}
use Rattle.vt_pages.specs.Shape.{Shape}
use Rattle.vt_tiles.specs.StoreViews.{IsStoreIfKnown}
use Rattle.vt_outside.specs.Effects.{FolderEffect}
use Rattle.vt_command_inputs.specs.Inputs.{Input, InputContent, name_of, IsContent, IsFlawOf, FlawFits, MayAsk, AreSeenPlaces, header_places}
use Rattle.vt_command_inputs.specs.HeldInputs.{Holds, HasFlaw, IsMissing}
use Rattle.vt_command_inputs.specs.declared.refusal.Refusal.{Refusal}
use Rattle.vt_command_inputs.specs.declared.refusal.Refusal.TheVariants.{NoMemory, Usage, Fault, Flawed, TooFewFrames, DoesNotFit}

-- the input's name was asked for places that it may be asked for, and no other name was
abbrev pub IsInputAsked : Input → FolderEffect → Type 0
IsInputAsked input p =
    (places : List Place) × MayAsk input (bytes_at p.before.files (name_of input)) places
    × (p.after.asked ≡ option_map (with_places (name_of input) (Some places)) p.before.asked)

-- the input was read, and the folder is as before but for its places
pub record TookInput (input : Input) (content : InputContent) (p : FolderEffect) : Type 0 where
  pub held : IsSome p.before.files → Holds p.before.files input content
  pub files : p.after.files ≡ p.before.files
  pub asked : IsInputAsked input p
  pub faults : p.before.faults ≤ p.after.faults

-- why an input was refused
abbrev pub IsRefusalCausedBy : Input → FolderEffect → Refusal → Type 0
IsRefusalCausedBy input p NoMemory = Unit {0}
IsRefusalCausedBy input p Usage = ⊥
IsRefusalCausedBy input p (TooFewFrames frames needed) = ⊥
IsRefusalCausedBy input p (DoesNotFit picture wanted room) = ⊥
IsRefusalCausedBy input p Fault = Rose p.before.faults p.after.faults ⊎ IsMissing p.before.files input
IsRefusalCausedBy input p (Flawed name flaw) = (name.now ≡ name_of input) × FlawFits input flaw × (IsSome p.before.files → HasFlaw p.before.files input flaw)

-- the input was refused, and the folder is as before but for its places
pub record Refused (input : Input) (refusal : Refusal) (p : FolderEffect) : Type 0 where
  pub cause : IsRefusalCausedBy input p refusal
  pub files : p.after.files ≡ p.before.files
  pub asked : (p.after.asked ≡ p.before.asked) ⊎ IsInputAsked input p
  pub faults : p.before.faults ≤ p.after.faults

-- a reader's answer is what the input holds, or why it was refused
abbrev pub Reads : {T : Type 0} → Input → (T → InputContent) → FolderEffect → Result T Refusal → Type 0
Reads input content p (Ok value) = TookInput input (content value) p
Reads input content p (Err refusal) = Refused input refusal p

-- an open file: its bytes and its places, where they are known, its name and its count of faults
pub record OpenFileState : Type 0 where
  pub bytes : Option (List ℕ)
  pub asked : Option (List Place)
  pub name : List ℕ
  pub faults : ℕ

-- an open file before and after
pub record Visit : Type 0 where
  pub before : OpenFileState
  pub after : OpenFileState

abbrev pub file_state : {F : Type 0} → FileMeanings F → F → OpenFileState
file_state g f = record { bytes = g.bytes f; asked = g.asked f; name = g.name f; faults = g.faults f }

abbrev pub visit : {F : Type 0} → FileMeanings F → F → F → Visit
visit g old new = record { before = file_state g old; after = file_state g new }

-- the file was asked for places that may be asked, and is else as before
pub record Visits (May : Option (List ℕ) → List Place → Type 0) (v : Visit) : Type 0 where
  pub places : List Place
  pub may : May v.before.bytes places
  pub asked : v.after.asked ≡ option_map (λ old. old ++ places) v.before.asked
  pub bytes : v.after.bytes ≡ v.before.bytes
  pub name : v.after.name ≡ v.before.name
  pub faults : v.before.faults ≤ v.after.faults

-- why bytes were refused as an input
abbrev pub IsCausedByBytes : Input → List ℕ → Refusal → Type 0
IsCausedByBytes input bytes NoMemory = Unit {0}
IsCausedByBytes input bytes Usage = ⊥
IsCausedByBytes input bytes (TooFewFrames frames needed) = ⊥
IsCausedByBytes input bytes (DoesNotFit picture wanted room) = ⊥
IsCausedByBytes input bytes Fault = ⊥
IsCausedByBytes input bytes (Flawed name flaw) = (name.now ≡ name_of input) × FlawFits input flaw × IsFlawOf input bytes flaw

-- what bytes are as an input, or why they were refused
abbrev pub FindsIn : {T : Type 0} → Input → (T → InputContent) → List ℕ → Result T Refusal → Type 0
FindsIn input content bytes (Ok value) = IsContent input bytes (content value)
FindsIn input content bytes (Err refusal) = IsCausedByBytes input bytes refusal

-- why an open file was refused as an input
abbrev pub IsCausedIn : Input → Visit → Refusal → Type 0
IsCausedIn input v NoMemory = Unit {0}
IsCausedIn input v Usage = ⊥
IsCausedIn input v (TooFewFrames frames needed) = ⊥
IsCausedIn input v (DoesNotFit picture wanted room) = ⊥
IsCausedIn input v Fault = Rose v.before.faults v.after.faults
IsCausedIn input v (Flawed name flaw) = (name.now ≡ name_of input) × FlawFits input flaw × IfSome v.before.bytes (λ bytes. IsFlawOf input bytes flaw)

-- what an open file is as an input, or why it was refused
abbrev pub Finds : {T : Type 0} → Input → (T → InputContent) → Visit → Result T Refusal → Type 0
Finds input content v (Ok value) = IfSome v.before.bytes (λ bytes. IsContent input bytes (content value))
Finds input content v (Err refusal) = IsCausedIn input v refusal

-- a name was opened: the file tells what the folder tells of the name, and has no places and no faults yet
pub record Opened (name : List ℕ) (p : FolderEffect) (file : OpenFileState) : Type 0 where
  pub files : p.after.files ≡ p.before.files
  pub asked : p.after.asked ≡ p.before.asked
  pub faults : p.before.faults ≤ p.after.faults
  pub bytes : file.bytes ≡ bytes_at p.before.files name
  pub known_too : is_some file.bytes ≡ is_some p.before.files
  pub no_places : file.asked ≡ option_map (λ _. []) p.before.asked
  pub name_is : OnSome p.before.asked (file.name ≡ name)
  pub no_faults : file.faults ≡ 0

-- the store of a name was opened: its header was read of its file, and the folder is as before
pub record OpensStore (name : List ℕ) (shape : Shape) (depth : ℕ) (file : OpenFileState) (p : FolderEffect) : Type 0 where
  pub is : IsStoreIfKnown file.bytes shape depth
  pub bytes : file.bytes ≡ bytes_at p.before.files name
  pub known_too : is_some file.bytes ≡ is_some p.before.files
  pub asked : file.asked ≡ option_map (λ _. header_places) p.before.asked
  pub name_is : OnSome p.before.asked (file.name ≡ name)
  pub files : p.after.files ≡ p.before.files
  pub no_places : p.after.asked ≡ p.before.asked
  pub faults : p.before.faults ≤ p.after.faults

-- places of rows were asked to look samples over, none where no sample may be above the maximum, and this came of it
pub record LooksOver (header : Header) (answer : Result (Unit {0}) PpmError) (before after : Option (List Place)) : Type 0 where
  pub pieces : MayBeOver header → ChecksPieces header answer before after
  pub unread : (MayBeOver header → ⊥) → after ≡ before
  pub rows : GainsRows header before after

-- no place was asked, or places of rows were, to look samples over
abbrev pub MayLookOver : Header → Option (List Place) → Option (List Place) → Type 0
MayLookOver header before after = (after ≡ before) ⊎ ((answer : Result (Unit {0}) PpmError) × LooksOver header answer before after)

-- a file whose places are known was asked for those of a texture that is to be looked over, with what came of it
pub record SeesTexture (known : Option (List ℕ)) (header : Header) (answer : Result (Unit {0}) PpmError) (before after : Option (List Place)) : Type 0 where
  pub each : (old : List Place) → before ≡ Some old
      → (places : List Place) × AreSeenPlaces known header answer places × (after ≡ Some (old ++ places))

-- the texture of a name was opened and looked over: its header and its samples were read of its file, and the folder is as before
pub record OpensTexture (name : List ℕ) (header : Header) (file : OpenFileState) (p : FolderEffect) : Type 0 where
  pub is : IsTextureIfKnown file.bytes header
  pub limits : IsTextureHeader header
  pub bytes : file.bytes ≡ bytes_at p.before.files name
  pub known_too : is_some file.bytes ≡ is_some p.before.files
  pub asked : SeesTexture file.bytes header (Ok tt) (option_map (λ _. []) p.before.asked) file.asked
  pub name_is : OnSome p.before.asked (file.name ≡ name)
  pub files : p.after.files ≡ p.before.files
  pub no_places : p.after.asked ≡ p.before.asked
  pub faults : p.before.faults ≤ p.after.faults

-- an open file was closed: its places and its count of faults became the folder's
pub record Closed (file : OpenFileState) (p : FolderEffect) : Type 0 where
  pub files : p.after.files ≡ p.before.files
  pub asked : p.after.asked ≡ option_map (with_places file.name file.asked) p.before.asked
  pub kept : p.before.faults ≤ p.after.faults
  pub faults : p.after.faults ≡ added p.before.faults file.faults

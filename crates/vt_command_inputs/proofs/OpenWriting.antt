-- What was written while the file of an input was open counts as if the input had been read before anything was written.
use Rattle.std.proofs.Common.{◌≡◌, ◌⊎◌, ℕ, ◌≤◌, List, [], ◌∷◌, ◌++◌, Option, Some, None, Ok, Err, refl, sym, ap, subst, ◌∙◌, inl, inr, arith}
use Rattle.std.specs.Prelude.{take}
use Rattle.std.specs.Option.{option_map, is_some, unwrap_or}
use Rattle.std.proofs.lemmas.Bool.{false≢true}
use Rattle.vt_outside.specs.Counts.{Rose, added}
use Rattle.vt_outside.specs.Files.{Files, with_bytes, with_places}
use Rattle.vt_outside.specs.declared.place.Place.{Place}
use Rattle.vt_outside.specs.declared.answers.OutsideError.{OutsideError}
use Rattle.vt_outside.specs.declared.answers.OutsideError.TheVariants.{Failed}
use Rattle.vt_outside.proofs.Refusing.{rose_later}
use Rattle.vt_tiles.specs.Made.{HoldsMade, HoldsMadeFront}
use Rattle.vt_outside.specs.Effects.{FolderState}
use Rattle.vt_outside.specs.Expectations.{Writes}
use Rattle.vt_outside.proofs.Writing.{file_written, file_stopped}
use Rattle.vt_command_inputs.specs.Reads.{OpenFileState, Closed}
use Rattle.vt_command_inputs.specs.OpenWrites.{WritesMade}

-- the folder as it would be if the places had been asked before anything was written
abbrev pub read_first : FolderState → FolderState → FolderState
read_first before after = record { files = before.files; asked = after.asked; faults = before.faults }

pub closed_places : (before mid after : FolderState) (old new : OpenFileState) (places : List Place)
    → new.asked ≡ option_map (λ held. held ++ places) old.asked → new.name ≡ old.name → mid.asked ≡ before.asked
    → Closed new (record { before = mid; after = after })
    → after.asked ≡ option_map (with_places old.name (option_map (λ held. held ++ places) old.asked)) before.asked
closed_places before mid after old new places gained same none c =
    c.asked
    ∙ ap (option_map (with_places new.name new.asked)) none
    ∙ ap (λ (n : List ℕ). option_map (with_places n new.asked) before.asked) same
    ∙ ap (λ (p : Option (List Place)). option_map (with_places old.name p) before.asked) gained

-- what the open file's bytes make was written, and the file closed
pub made_written : (made : List ℕ → List ℕ) (Are : List Place → Type 0) (name : List ℕ) (before mid after : FolderState) (old new : OpenFileState)
    (places : List Place)
    → HoldsMade old.bytes made name before.files mid.files → Are places → new.asked ≡ option_map (λ held. held ++ places) old.asked
    → new.name ≡ old.name → mid.asked ≡ before.asked → before.faults ≤ mid.faults → Closed new (record { before = mid; after = after })
    → WritesMade old made Are name (record { before = before; after = after }) (Ok tt)
made_written made Are name before mid after old new places h are gained same none faults c = record {
  whole = subst (λ (files : Option Files). HoldsMade old.bytes made name before.files files) (sym c.files) h;
  part = tt;
  places = places;
  are = are;
  asked = closed_places before mid after old new places gained same none c;
  failed = λ is. absurd (let wrong = is in cc);
  faults = let le : mid.faults ≤ after.faults = c.kept in omega (arith, faults, le);
}

pub rise : (b m a z n : ℕ) → b ≤ m → m ≤ a → a ≡ added m n → Rose b m ⊎ Rose z n → Rose b a
rise b m a z n le more sum (inl rose) = omega (arith, le, more, rose)
rise b m a z n le more sum (inr rose) = omega (arith, le, more, sum, rose)

-- a prefix of it was written, and the file closed
pub made_stopped : (made : List ℕ → List ℕ) (Are : List Place → Type 0) (name : List ℕ) (before mid after : FolderState) (old new : OpenFileState)
    (places : List Place) (error : OutsideError)
    → (mid.files ≡ before.files) ⊎ HoldsMadeFront old.bytes made name before.files mid.files → Are places
    → new.asked ≡ option_map (λ held. held ++ places) old.asked
    → (error ≡ Failed → Rose before.faults mid.faults ⊎ Rose old.faults new.faults)
    → new.name ≡ old.name → mid.asked ≡ before.asked → before.faults ≤ mid.faults → Closed new (record { before = mid; after = after })
    → WritesMade old made Are name (record { before = before; after = after }) (Err error)
made_stopped made Are name before mid after old new places error h are gained failed same none faults c = record {
  whole = tt;
  part = subst (λ (files : Option Files). (files ≡ before.files) ⊎ HoldsMadeFront old.bytes made name before.files files) (sym c.files) h;
  places = places;
  are = are;
  asked = closed_places before mid after old new places gained same none c;
  failed = λ is. rise before.faults mid.faults after.faults old.faults new.faults faults c.kept c.faults
      (failed (let same : ◌≡◌ {A = OutsideError} error Failed = (cc) in same));
  faults = let le : mid.faults ≤ after.faults = c.kept in omega (arith, faults, le);
}

made_known : (made : List ℕ → List ℕ) (name : List ℕ) (o : Option (List ℕ)) (files after : Option Files) → is_some o ≡ is_some files
    → HoldsMade o made name files after → after ≡ option_map (with_bytes name (made (unwrap_or o []))) files
made_known made name None None after known_too h = h.held
made_known made name None (Some f) after known_too h = absurd (false≢true known_too)
made_known made name (Some b) files after known_too h = h.held ∙ ap (λ (w : List ℕ). option_map (with_bytes name w) files) (h.same b refl)

front_known : (made : List ℕ → List ℕ) (name : List ℕ) (o : Option (List ℕ)) (files after : Option Files) → is_some o ≡ is_some files
    → (after ≡ files) ⊎ HoldsMadeFront o made name files after
    → (after ≡ files) ⊎ ((k : ℕ) × (after ≡ option_map (with_bytes name (take k (made (unwrap_or o [])))) files))
front_known made name o files after known_too (inl same) = inl same
front_known made name None None after known_too (inr h) = inl h.held
front_known made name None (Some f) after known_too (inr h) = absurd (false≢true known_too)
front_known made name (Some b) files after known_too (inr h) =
    let part = h.part b refl in
    inr (part.0, h.held ∙ ap (λ (w : List ℕ). option_map (with_bytes name w) files) part.1)

-- the expected file was written
pub expected_written : (made : List ℕ → List ℕ) (Are : List Place → Type 0) (name : List ℕ) (file : OpenFileState) (before opened after : FolderState)
    → is_some file.bytes ≡ is_some before.files → opened.files ≡ before.files → before.faults ≤ opened.faults
    → WritesMade file made Are name (record { before = opened; after = after }) (Ok tt)
    → Writes {T = Unit {0}} ((record { name = name; bytes = made (unwrap_or file.bytes []) }) ∷ [])
    (record { before = read_first before after; after = after }) (Ok tt)
expected_written made Are name file before opened after known_too same first w =
    file_written name (made (unwrap_or file.bytes [])) (read_first before after) after
    (made_known made name file.bytes before.files after.files known_too
    (subst (λ (files : Option Files). HoldsMade file.bytes made name files after.files) same w.whole))
    refl (let more : opened.faults ≤ after.faults = w.faults in omega (arith, first, more))

-- a prefix of it was
pub expected_stopped : (made : List ℕ → List ℕ) (Are : List Place → Type 0) (name : List ℕ) (file : OpenFileState) (before opened after : FolderState)
    (error : OutsideError)
    → is_some file.bytes ≡ is_some before.files → opened.files ≡ before.files → before.faults ≤ opened.faults
    → WritesMade file made Are name (record { before = opened; after = after }) (Err error)
    → Writes {T = Unit {0}} ((record { name = name; bytes = made (unwrap_or file.bytes []) }) ∷ [])
    (record { before = read_first before after; after = after }) (Err error)
expected_stopped made Are name file before opened after error known_too same first w =
    file_stopped name (made (unwrap_or file.bytes [])) (read_first before after) after error
    (front_known made name file.bytes before.files after.files known_too
    (subst (λ (files : Option Files). (after.files ≡ files) ⊎ HoldsMadeFront file.bytes made name files after.files) same w.part))
    refl (let more : opened.faults ≤ after.faults = w.faults in omega (arith, first, more))
    (λ is. rose_later before.faults opened.faults after.faults first (w.failed (ap Err is)))

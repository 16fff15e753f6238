-- A store that is widened while its file is open counts as an input that was read before anything was written.
use Rattle.std.proofs.Common.{◌≡◌, ◌⊎◌, ℕ, ◌≤◌, List, [], ◌∷◌, ◌++◌, Option, Some, None, Ok, Err, true, refl, sym, ap, subst, ◌∙◌, inl, inr, arith}
use Rattle.std.specs.Prelude.{Result}
use Rattle.std.specs.Option.{option_map, IsSome, is_some, IfSome, unwrap_or}
use Rattle.std.proofs.lemmas.Bool.{false≢true}
use Rattle.vt_outside.specs.Counts.{Rose}
use Rattle.vt_outside.specs.Files.{Files, Asked, bytes_at, with_places}
use Rattle.vt_outside.specs.declared.place.Place.{Place}
use Rattle.vt_outside.specs.declared.answers.OutsideError.{OutsideError}
use Rattle.vt_outside.specs.declared.answers.OutsideError.TheVariants.{Failed}
use Rattle.vt_pages.specs.Shape.{Shape}
use Rattle.vt_tiles.specs.Places.{FrontAsked, PiecesAsked, pieces_of, piece_place, piece_places}
use Rattle.vt_tiles.specs.StoreViews.{IsStore}
use Rattle.vt_tiles.specs.Made.{HoldsMade, HoldsMadeFront}
use Rattle.vt_store.specs.Widening.{HoldsWidened, HoldsFront}
use Rattle.vt_outside.specs.Effects.{FolderState}
use Rattle.vt_outside.specs.Expectations.{Writes}
use Rattle.vt_command_inputs.specs.Inputs.{NarrowStore, NarrowContent, AsksPieces, ArePieces, header_places}
use Rattle.vt_command_inputs.specs.HeldInputs.{Holds}
use Rattle.vt_command_inputs.specs.OpenWrites.{WritesMade}
use Rattle.vt_command_inputs.specs.Reads.{OpenFileState, TookInput, OpensStore, Closed}
use Rattle.vt_store_commands.specs.commands.Upgrade.{upgraded_file, expected_wide}
use Rattle.vt_command_inputs.proofs.OpenWriting.{read_first, made_written, made_stopped, expected_written, expected_stopped}
use Rattle.vt_command_inputs.proofs.Reading.{placed}

-- the pieces that were asked
front_of : (shape : Shape) (before after : Option (List Place)) → FrontAsked shape 1 before after
    → (pieces : List Place) × ArePieces shape pieces × (after ≡ option_map (λ old. old ++ pieces) before)
front_of shape before after f = elim f.asked [
  | inl all ↦ (piece_places shape 1 f.count, (f.count, f.few, inl refl), all)
  | inr last ↦ (piece_places shape 1 f.count ++ piece_place shape 1 true f.count ∷ [], (f.count, f.few, inr (last.0, refl)), last.1)
]

-- the widened store as what the bytes of the old one make
made_whole : (known : Option (List ℕ)) (shape : Shape) (name : List ℕ) (before after : Option Files) → HoldsWidened known shape name before after
    → HoldsMade known (upgraded_file shape) name before after
made_whole known shape name before after h = record { written = h.written; held = h.held; same = h.same }

made_front : (known : Option (List ℕ)) (shape : Shape) (name : List ℕ) (before after : Option Files)
    → (after ≡ before) ⊎ HoldsFront known shape name before after → (after ≡ before) ⊎ HoldsMadeFront known (upgraded_file shape) name before after
made_front known shape name before after (inl same) = inl same
made_front known shape name before after (inr h) = inr (record { written = h.written; held = h.held; part = h.part })

-- the widened store was written, and the file closed
pub wide_written : (shape : Shape) (name : List ℕ) (before mid after : FolderState) (old new : OpenFileState)
    → HoldsWidened old.bytes shape name before.files mid.files → PiecesAsked shape 1 (pieces_of shape) old.asked new.asked
    → new.name ≡ old.name → mid.asked ≡ before.asked → before.faults ≤ mid.faults → Closed new (record { before = mid; after = after })
    → WritesMade old (upgraded_file shape) (ArePieces shape) name (record { before = before; after = after }) (Ok tt)
wide_written shape name before mid after old new h asked same none faults c =
    made_written (upgraded_file shape) (ArePieces shape) name before mid after old new (piece_places shape 1 (pieces_of shape))
    (made_whole old.bytes shape name before.files mid.files h) (pieces_of shape, omega arith, inl refl) asked same none faults c

-- a prefix of it was written, and the file closed
pub wide_stopped : (shape : Shape) (name : List ℕ) (before mid after : FolderState) (old new : OpenFileState) (error : OutsideError)
    → (mid.files ≡ before.files) ⊎ HoldsFront old.bytes shape name before.files mid.files → FrontAsked shape 1 old.asked new.asked
    → (error ≡ Failed → Rose before.faults mid.faults ⊎ Rose old.faults new.faults)
    → new.name ≡ old.name → mid.asked ≡ before.asked → before.faults ≤ mid.faults → Closed new (record { before = mid; after = after })
    → WritesMade old (upgraded_file shape) (ArePieces shape) name (record { before = before; after = after }) (Err error)
wide_stopped shape name before mid after old new error h asked failed same none faults c =
    let front = front_of shape old.asked new.asked asked in
    made_stopped (upgraded_file shape) (ArePieces shape) name before mid after old new front.0 error
    (made_front old.bytes shape name before.files mid.files h) front.1 front.2 failed same none faults c

held_of : (name : List ℕ) (shape : Shape) (o : Option (List ℕ)) (files : Option Files) → o ≡ bytes_at files name → is_some o ≡ is_some files
    → ((b : List ℕ) → o ≡ Some b → IsStore b shape 1) → IsSome files → Holds files (NarrowStore name) (NarrowContent shape (unwrap_or o []))
held_of name shape None files same known_too is known = absurd (false≢true (known_too ∙ known))
held_of name shape (Some b) files same known_too is known = record { bytes = b; there = sym same; is = (is b refl, refl) }

known_store : (shape : Shape) (o : Option (List ℕ)) → ((b : List ℕ) → o ≡ Some b → IsStore b shape 1) → IfSome o (λ b. IsStore b shape 1)
known_store shape None is = tt
known_store shape (Some b) is = is b refl

more_places : (asked : Option Asked) (header pieces : List Place)
    → option_map (λ (old : List Place). old ++ pieces) (option_map (λ (_ : Asked). header) asked)
    ≡ option_map (λ (old : List Place). old ++ (header ++ pieces)) (option_map (λ (_ : Asked). []) asked)
more_places None header pieces = refl
more_places (Some a) header pieces = refl

-- the store was read
pub store_took : (name new : List ℕ) (shape : Shape) (depth : ℕ) (file : OpenFileState) (before opened after : FolderState) (r : Result (Unit {0}) OutsideError)
    → depth ≡ 1 → OpensStore name shape depth file (record { before = before; after = opened })
    → WritesMade file (upgraded_file shape) (ArePieces shape) new (record { before = opened; after = after }) r
    → TookInput (NarrowStore name) (NarrowContent shape (unwrap_or file.bytes [])) (record { before = before; after = read_first before after })
store_took name new shape depth file before opened after r is_narrow o w = record {
  held = held_of name shape file.bytes before.files o.bytes o.known_too narrow;
  files = refl;
  asked = (
    header_places ++ w.places,
    subst (λ (known : Option (List ℕ)). AsksPieces known (header_places ++ w.places)) o.bytes
        (inr (shape, w.places, known_store shape file.bytes narrow, w.are, refl)),
    w.asked
        ∙ ap (option_map (with_places file.name (option_map (λ (old : List Place). old ++ w.places) file.asked))) o.no_places
        ∙ placed name file.name (header_places ++ w.places) before.asked (option_map (λ (old : List Place). old ++ w.places) file.asked)
        (ap (option_map (λ (old : List Place). old ++ w.places)) o.asked ∙ more_places before.asked header_places w.places) o.name_is,
  );
  faults = omega arith;
}
  where
    narrow : (b : List ℕ) → file.bytes ≡ Some b → IsStore b shape 1
    narrow b is = subst (λ (d : ℕ). IsStore b shape d) is_narrow (o.is.each b is)

-- the new store was written
pub new_written : (name new : List ℕ) (shape : Shape) (depth : ℕ) (file : OpenFileState) (before opened after : FolderState)
    → OpensStore name shape depth file (record { before = before; after = opened })
    → WritesMade file (upgraded_file shape) (ArePieces shape) new (record { before = opened; after = after }) (Ok tt)
    → Writes {T = Unit {0}} (expected_wide new shape (unwrap_or file.bytes [])).files (record { before = read_first before after; after = after }) (Ok tt)
new_written name new shape depth file before opened after o w =
    expected_written (upgraded_file shape) (ArePieces shape) new file before opened after o.known_too o.files o.faults w

-- a prefix of it was
pub new_stopped : (name new : List ℕ) (shape : Shape) (depth : ℕ) (file : OpenFileState) (before opened after : FolderState) (error : OutsideError)
    → OpensStore name shape depth file (record { before = before; after = opened })
    → WritesMade file (upgraded_file shape) (ArePieces shape) new (record { before = opened; after = after }) (Err error)
    → Writes {T = Unit {0}} (expected_wide new shape (unwrap_or file.bytes [])).files (record { before = read_first before after; after = after }) (Err error)
new_stopped name new shape depth file before opened after error o w =
    expected_stopped (upgraded_file shape) (ArePieces shape) new file before opened after error o.known_too o.files o.faults w

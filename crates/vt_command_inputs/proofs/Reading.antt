-- What a reader answers, by how the reading of its open file ended.
use Rattle.std.proofs.Common.{◌≡◌, ◌⊎◌, ℕ, ◌≤◌, List, [], ◌++◌, Option, Some, None, Ok, Err, true, false, refl, sym, ap, subst, ◌∙◌, inl, inr, arith}
use Rattle.std.specs.Prelude.{Result, OnSome, Bool, length, min}
use Rattle.std.specs.Option.{option_map, IsSome, is_some, IfSome}
use Rattle.std.proofs.lemmas.Bool.{false≢true}
use Rattle.std.proofs.lemmas.List.{append-nil}
use Rattle.vt_outside.specs.Counts.{Rose, added}
use Rattle.vt_outside.specs.Files.{Files, Asked, bytes_at, with_places, noted}
use Rattle.vt_outside.specs.declared.place.Place.{Place}
use Rattle.vt_outside.specs.declared.answers.OutsideError.{OutsideError}
use Rattle.vt_outside.specs.declared.answers.OutsideError.TheVariants as outside
use Rattle.vt_tiles.specs.Format.{header_length}
use Rattle.vt_tiles.specs.StoreViews.{IsStore, IsStoreIfKnown}
use Rattle.vt_tiles.specs.Places.{OpenerAsks}
use Rattle.vt_tiles.proofs.Flaws.{whole_length}
use Rattle.vt_tiles.specs.declared.error.StoreError.{StoreError}
use Rattle.vt_tiles.specs.declared.error.StoreError.TheVariants as store
use Rattle.vt_pages.specs.Shape.{Shape}
use Rattle.vt_outside.specs.Effects.{FolderState}
use Rattle.vt_command_inputs.specs.Inputs.{Input, InputContent, name_of, IsContent, IsFlawOf, MayAsk, AsksWhole, MayAskHeader}
use Rattle.vt_command_inputs.specs.HeldInputs.{IsMissing}
use Rattle.vt_command_inputs.specs.Reads.{Opened, Closed, IsInputAsked, Refused, IsRefusalCausedBy, Reads, Visit, OpenFileState, Visits, IsCausedIn, FindsIn, Finds}
use Rattle.vt_command_inputs.specs.Refusals.{cause_of}
use Rattle.vt_command_inputs.specs.declared.refusal.Refusal.{Refusal}
use Rattle.vt_command_inputs.specs.declared.refusal.Refusal.TheVariants.{NoMemory, Usage, Fault, Flawed, TooFewFrames, DoesNotFit}

-- what holds of a file's bytes, where they are known, holds of those that the folder tells of its name
fact_there : (P : List ℕ → Type 0) (files : Option Files) (name : List ℕ) (bytes : Option (List ℕ))
    → bytes ≡ bytes_at files name → is_some bytes ≡ is_some files → IfSome bytes P → IsSome files → (text : List ℕ) × (bytes_at files name ≡ Some text) × P text
fact_there P files name None same known_too fact known = absurd (false≢true (known_too ∙ known))
fact_there P files name (Some b) same known_too fact known = (b, sym same, fact)

-- the places of a file that was asked, at its name
pub placed : (name of : List ℕ) (places : List Place) (asked : Option Asked) (known : Option (List Place))
    → known ≡ option_map (λ (old : List Place). old ++ places) (option_map (λ (_ : Asked). []) asked) → OnSome asked (of ≡ name)
    → option_map (with_places of known) asked ≡ option_map (with_places name (Some places)) asked
placed name of places None known same is = refl
placed name of places (Some a) known same is =
    ap (λ (p : Option (List Place)). Some (with_places of p a)) same ∙ ap (λ (n : List ℕ). Some (with_places n (Some places) a)) is

asked_of : (input : Input) (before opened after : FolderState) (v : Visit)
    → Opened (name_of input) (record { before = before; after = opened }) v.before → Visits (MayAsk input) v
    → Closed v.after (record { before = opened; after = after })
    → IsInputAsked input (record { before = before; after = after })
asked_of input before opened after v o h c = (
  h.places,
  subst (λ (known : Option (List ℕ)). MayAsk input known h.places) o.bytes h.may,
  c.asked
      ∙ ap (option_map (with_places v.after.name v.after.asked)) o.asked
      ∙ ap (λ (n : List ℕ). option_map (with_places n v.after.asked) before.asked) h.name
      ∙ placed (name_of input) v.before.name h.places before.asked v.after.asked
      (h.asked ∙ ap (option_map (λ (old : List Place). old ++ h.places)) o.no_places) o.name_is,
)

later : (before opened after : FolderState) → before.faults ≤ opened.faults → opened.faults ≤ after.faults → before.faults ≤ after.faults
later before opened after a b = omega arith

rise : (b o a n z : ℕ) → b ≤ o → z ≡ 0 → a ≡ added o n → Rose z n → Rose b a
rise b o a n z le zero_is sum rose = omega (arith, le, zero_is, sum, rose)

cause_there : (input : Input) (before opened after : FolderState) (v : Visit) (refusal : Refusal)
    → Opened (name_of input) (record { before = before; after = opened }) v.before → Closed v.after (record { before = opened; after = after })
    → IsCausedIn input v refusal
    → IsRefusalCausedBy input (record { before = before; after = after }) refusal
cause_there input before opened after v NoMemory o c h = tt
cause_there input before opened after v Usage o c h = h
cause_there input before opened after v (TooFewFrames frames needed) o c h = h
cause_there input before opened after v (DoesNotFit picture wanted room) o c h = h
cause_there input before opened after v Fault o c h = inl
    (rise before.faults opened.faults after.faults v.after.faults v.before.faults o.faults o.no_faults c.faults h)
cause_there input before opened after v (Flawed name flaw) o c h = (
  h.0,
  h.1,
  λ known.
      let there = fact_there (λ (bytes : List ℕ). IsFlawOf input bytes flaw) before.files (name_of input) v.before.bytes o.bytes o.known_too h.2 known in
      record { bytes = there.0; there = there.1; is = there.2 },
)

-- a file that was opened, read and closed
pub closed : {T : Type 0} → (input : Input) (content : T → InputContent) (before opened after : FolderState) (v : Visit) (r : Result T Refusal)
    → Opened (name_of input) (record { before = before; after = opened }) v.before → Visits (MayAsk input) v → Finds input content v r
    → Closed v.after (record { before = opened; after = after })
    → Reads input content (record { before = before; after = after }) r
closed input content before opened after v (Ok value) o h finds c = record {
  held = λ known.
      let there = fact_there (λ (bytes : List ℕ). IsContent input bytes (content value)) before.files
      (name_of input) v.before.bytes o.bytes o.known_too finds known in
      record { bytes = there.0; there = there.1; is = there.2 };
  files = c.files ∙ o.files;
  asked = asked_of input before opened after v o h c;
  faults = later before opened after o.faults c.kept;
}
closed input content before opened after v (Err refusal) o h finds c = record {
  cause = cause_there input before opened after v refusal o c finds;
  files = c.files ∙ o.files;
  asked = inr (asked_of input before opened after v o h c);
  faults = later before opened after o.faults c.kept;
}

missing_or : (input : Input) (files : Option Files) (rose : Type 0)
    → (OnSome files (IsSome (bytes_at files (name_of input))) → rose) → rose ⊎ IsMissing files input
missing_or input None rose h = inl (h tt)
missing_or input (Some f) rose h = named (f (name_of input)) refl
  where
    named : (held : Option (List ℕ)) → f (name_of input) ≡ held → rose ⊎ IsMissing (Some f) input
    named None is = inr (record { known = refl; none = ap is_some is })
    named (Some b) is = inl (h (ap is_some is))

-- a name that was not opened
pub not_opened : (input : Input) (before after : FolderState) (error : OutsideError)
    → after.files ≡ before.files → after.asked ≡ before.asked → before.faults ≤ after.faults
    → (error ≡ outside.Failed → OnSome before.files (IsSome (bytes_at before.files (name_of input))) → Rose before.faults after.faults)
    → Refused input (cause_of error) (record { before = before; after = after })
not_opened input before after outside.Failed files asked faults failed = record {
  cause = missing_or input before.files (Rose before.faults after.faults) (failed refl);
  files = files;
  asked = inl asked;
  faults = faults;
}
not_opened input before after outside.NoMemory files asked faults failed = record { cause = tt; files = files; asked = inl asked; faults = faults }

-- bytes that were read of an open file
pub found : {T : Type 0} → (input : Input) (content : T → InputContent) (v : Visit) (bytes : List ℕ) (r : Result T Refusal)
    → IfSome v.before.bytes (λ b. bytes ≡ b) → FindsIn input content bytes r → Finds input content v r
found input content v bytes (Ok value) read h = known v.before.bytes read
  where
    known : (o : Option (List ℕ)) → IfSome o (λ b. bytes ≡ b) → IfSome o (λ b. IsContent input b (content value))
    known None same = tt
    known (Some b) same = subst (λ (t : List ℕ). IsContent input t (content value)) same h
found input content v bytes (Err NoMemory) read h = tt
found input content v bytes (Err Usage) read h = h
found input content v bytes (Err (TooFewFrames frames needed)) read h = h
found input content v bytes (Err (DoesNotFit picture wanted room)) read h = h
found input content v bytes (Err Fault) read h = absurd h
found input content v bytes (Err (Flawed name flaw)) read h = (h.0, h.1, known v.before.bytes read)
  where
    known : (o : Option (List ℕ)) → IfSome o (λ b. bytes ≡ b) → IfSome o (λ b. IsFlawOf input b flaw)
    known None same = tt
    known (Some b) same = subst (λ (t : List ℕ). IsFlawOf input t flaw) same h.2

-- all bytes were asked at once
pub asked_whole : (before after : OpenFileState) (n len : ℕ) (failed : Bool)
    → IfSome before.bytes (λ bytes. n ≡ length bytes) → len ≡ n → after.asked ≡ option_map (noted 0 len failed) before.asked
    → after.bytes ≡ before.bytes → after.name ≡ before.name → before.faults ≤ after.faults
    → Visits AsksWhole (record { before = before; after = after })
asked_whole before after n len failed known is asked bytes name faults = record {
  places = noted 0 len failed [];
  may = inr (len, failed, subst (λ (k : ℕ). IfSome before.bytes (λ bytes. k ≡ length bytes)) (sym is) known, refl);
  asked = asked;
  bytes = bytes;
  name = name;
  faults = faults;
}

pub gains_none : (asked : Option (List Place)) → asked ≡ option_map (λ (old : List Place). old ++ []) asked
gains_none None = refl
gains_none (Some places) = ap Some (sym (append-nil places))

-- the header was asked, and no more
asked_header : (before after : OpenFileState) (len : ℕ) (failed : Bool)
    → len ≤ header_length → IfSome before.bytes (λ bytes. len ≡ min (length bytes) header_length) → after.asked ≡ option_map (noted 0 len failed) before.asked
    → after.bytes ≡ before.bytes → after.name ≡ before.name → before.faults ≤ after.faults
    → Visits MayAskHeader (record { before = before; after = after })
asked_header before after len failed few known asked bytes name faults = record {
  places = noted 0 len failed [];
  may = inr (len, failed, (few, known), refl);
  asked = asked;
  bytes = bytes;
  name = name;
  faults = faults;
}

asked_nothing : (before after : OpenFileState) → after.asked ≡ before.asked
    → after.bytes ≡ before.bytes → after.name ≡ before.name → before.faults ≤ after.faults
    → Visits MayAskHeader (record { before = before; after = after })
asked_nothing before after same bytes name faults = record {
  places = [];
  may = inl refl;
  asked = same ∙ gains_none before.asked;
  bytes = bytes;
  name = name;
  faults = faults;
}

pub full_header : (known : Option (List ℕ)) (shape : Shape) (depth : ℕ) → ((bytes : List ℕ) → known ≡ Some bytes → IsStore bytes shape depth)
    → IfSome known (λ bytes. header_length ≡ min (length bytes) header_length)
full_header None shape depth each = tt
full_header (Some bytes) shape depth each = let whole = whole_length bytes (length bytes) (each bytes refl).no_flaw in omega (arith, whole)

-- an opener that found a store
pub store_visited : (before after : OpenFileState) (shape : Shape) (depth : ℕ) → IsStoreIfKnown before.bytes shape depth
    → OpenerAsks before.bytes None before.asked after.asked
    → after.bytes ≡ before.bytes → after.name ≡ before.name → before.faults ≤ after.faults
    → Visits MayAskHeader (record { before = before; after = after })
store_visited before after shape depth is asks bytes name faults =
    asked_header before after header_length false (omega arith) (full_header before.bytes shape depth is.each) asks bytes name faults

-- an opener that refused
pub refusal_visited : (before after : OpenFileState) (e : StoreError)
    → OpenerAsks before.bytes (Some e) before.asked after.asked
    → after.bytes ≡ before.bytes → after.name ≡ before.name → before.faults ≤ after.faults
    → Visits MayAskHeader (record { before = before; after = after })
refusal_visited before after store.Failed (inl same) bytes name faults = asked_nothing before after same bytes name faults
refusal_visited before after store.Failed
    (inr asks) bytes name faults = asked_header before after asks.count true asks.few asks.of_known asks.one bytes name faults
refusal_visited before after store.NoMemory same bytes name faults = asked_nothing before after same bytes name faults
refusal_visited before after store.BadMagic asks bytes name faults =
    asked_header before after asks.count false asks.few asks.of_known asks.one bytes name faults
refusal_visited before after store.BadGeometry asks bytes name faults =
    asked_header before after asks.count false asks.few asks.of_known asks.one bytes name faults
refusal_visited before after (store.WrongLength want have) asks bytes name faults =
    asked_header before after asks.count false asks.few asks.of_known asks.one bytes name faults

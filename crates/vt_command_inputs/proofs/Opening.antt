-- Stores that are opened, and files that are closed later.
use Rattle.std.proofs.Common.{◌≡◌, ◌≢◌, ℕ, ◌≤◌, List, [], ◌++◌, Option, Some, None, false, refl, sym, ap, subst, ◌∙◌, inl, inr, arith}
use Rattle.std.specs.Prelude.{OnSome}
use Rattle.std.specs.Borrow.{Bor}
use Rattle.std.specs.Option.{option_map, IsSome, is_some}
use Rattle.std.proofs.lemmas.Bool.{false≢true}
use Rattle.vt_ppm.specs.Depths.{IsDepth}
use Rattle.vt_outside.specs.Files.{Files, Asked, bytes_at, with_places}
use Rattle.vt_outside.specs.declared.place.Place.{Place}
use Rattle.vt_pages.specs.Shape.{Shape}
use Rattle.vt_tiles.specs.Format.{header_length}
use Rattle.vt_tiles.specs.StoreViews.{IsStore, IsStoreIfKnown}
use Rattle.vt_outside.specs.Effects.{FolderState, FolderEffect}
use Rattle.vt_command_inputs.specs.Inputs.{StoreInput, NarrowStore, StoreContent, MayAskHeader, header_places}
use Rattle.vt_command_inputs.specs.Reads.{OpenFileState, Visit, Visits, Opened, OpensStore, Closed, TookInput, Refused, IsRefusalCausedBy, IsInputAsked}
use Rattle.vt_command_inputs.specs.declared.flaws.Flaw.TheVariants.{AlreadyWide}
use Rattle.vt_command_inputs.specs.declared.refusal.Refusal.{Refusal}
use Rattle.vt_command_inputs.specs.declared.refusal.Refusal.TheVariants.{NoMemory, Usage, Fault, Flawed, TooFewFrames, DoesNotFit}
use Rattle.vt_command_inputs.proofs.Reading.{full_header}

-- the places of a file that was closed under its name
pub closed_places : (name of : List ℕ) (places : List Place) (asked : Option Asked) (known : Option (List Place))
    → known ≡ option_map (λ (_ : Asked). places) asked → OnSome asked (of ≡ name)
    → option_map (with_places of known) asked ≡ option_map (with_places name (Some places)) asked
closed_places name of places None known same is = refl
closed_places name of places (Some a) known same is =
    ap (λ (p : Option (List Place)). Some (with_places of p a)) same ∙ ap (λ (n : List ℕ). Some (with_places n (Some places) a)) is

named : (name before after : List ℕ) (asked : Option Asked) → after ≡ before → OnSome asked (before ≡ name) → OnSome asked (after ≡ name)
named name before after None same is = tt
named name before after (Some a) same is = same ∙ is

header_alone : (asked : Option Asked) (none : List Place) → none ≡ []
    → option_map (λ (old : List Place). old ++ header_places) (option_map (λ (_ : Asked). none) asked) ≡ option_map (λ (_ : Asked). header_places) asked
header_alone None none is = refl
header_alone (Some a) none is = ap (λ (n : List Place). Some (n ++ header_places)) is

-- a store was opened by a file that was opened and whose header was read
pub store_opened : (name : List ℕ) (shape : Shape) (depth : ℕ) (p : FolderEffect) (v : Visit) → Opened name p v.before → Visits MayAskHeader v
    → v.after.asked ≡ option_map (λ (old : List Place). old ++ header_places) v.before.asked → IsStoreIfKnown v.before.bytes shape depth
    → OpensStore name shape depth v.after p
store_opened name shape depth p v o h read is = record {
  is = subst (λ (known : Option (List ℕ)). IsStoreIfKnown known shape depth) (sym h.bytes) is;
  bytes = h.bytes ∙ o.bytes;
  known_too = ap is_some h.bytes ∙ o.known_too;
  asked = read ∙ ap (option_map (λ (old : List Place). old ++ header_places)) o.no_places ∙ header_alone p.before.asked [] refl;
  name_is = named name v.before.name v.after.name p.before.asked h.name o.name_is;
  files = o.files;
  no_places = o.asked;
  faults = o.faults;
}

-- a store's header alone may have been asked
pub header_asked : (name : List ℕ) (shape : Shape) (depth : ℕ) (file : OpenFileState) (p : FolderEffect) → OpensStore name shape depth file p
    → MayAskHeader (bytes_at p.before.files name) header_places
header_asked name shape depth file p o =
    subst (λ (known : Option (List ℕ)). MayAskHeader known header_places) o.bytes
    (inr (header_length, false, (omega arith, full_header file.bytes shape depth o.is.each), refl))

held_store : (name : List ℕ) (shape : Shape) (depth : ℕ) (o : Option (List ℕ)) (files : Option Files) → o ≡ bytes_at files name
    → is_some o ≡ is_some files → ((b : List ℕ) → o ≡ Some b → IsStore b shape depth) → IsSome files
    → (bytes : List ℕ) × (bytes_at files name ≡ Some bytes) × IsStore bytes shape depth
held_store name shape depth None files same known_too is known = absurd (false≢true (known_too ∙ known))
held_store name shape depth (Some b) files same known_too is known = (b, sym same, is b refl)

-- what a folder of known content holds of a store that was opened
pub store_there : (name : List ℕ) (shape : Shape) (depth : ℕ) (file : OpenFileState) (p : FolderEffect) → OpensStore name shape depth file p
    → IsSome p.before.files → (bytes : List ℕ) × (bytes_at p.before.files name ≡ Some bytes) × IsStore bytes shape depth
store_there name shape depth file p o known = held_store name shape depth file.bytes p.before.files o.bytes o.known_too o.is.each known

shut_asked : (name : List ℕ) (shape : Shape) (depth : ℕ) (file : OpenFileState) (before opened after : FolderState)
    → OpensStore name shape depth file (record { before = before; after = opened }) → Closed file (record { before = opened; after = after })
    → after.asked ≡ option_map (with_places name (Some header_places)) before.asked
shut_asked name shape depth file before opened after o c =
    c.asked ∙ ap (option_map (with_places file.name file.asked)) o.no_places
    ∙ closed_places name file.name header_places before.asked file.asked o.asked o.name_is

later : (before opened after : FolderState) → before.faults ≤ opened.faults → opened.faults ≤ after.faults → before.faults ≤ after.faults
later before opened after a b = omega arith

-- a store that was opened and closed was read for its header
pub header_took : (name : List ℕ) (shape : Shape) (depth : ℕ) (file : OpenFileState) (before opened after : FolderState)
    → OpensStore name shape depth file (record { before = before; after = opened }) → Closed file (record { before = opened; after = after })
    → TookInput (StoreInput name) (StoreContent shape depth) (record { before = before; after = after })
header_took name shape depth file before opened after o c = record {
  held = λ known.
      let there = store_there name shape depth file (record { before = before; after = opened }) o known in
      record { bytes = there.0; there = there.1; is = there.2 };
  files = c.files ∙ o.files;
  asked = (
    header_places,
    header_asked name shape depth file (record { before = before; after = opened }) o,
    shut_asked name shape depth file before opened after o c,
  );
  faults = later before opened after o.faults c.kept;
}

narrow_cause : (name : List ℕ) (refusal : Refusal) (p : FolderEffect) → IsRefusalCausedBy (StoreInput name) p refusal → IsRefusalCausedBy (NarrowStore name) p refusal
narrow_cause name NoMemory p h = tt
narrow_cause name Usage p h = h
narrow_cause name (TooFewFrames frames needed) p h = h
narrow_cause name (DoesNotFit picture wanted room) p h = h
narrow_cause name Fault p (inl rose) = inl rose
narrow_cause name Fault p (inr missing) = inr (record { known = missing.known; none = missing.none })
narrow_cause name (Flawed named flaw) p h = (h.0, inl h.1, λ known. let f = h.2 known in record { bytes = f.bytes; there = f.there; is = inl f.is })

narrow_asked : (name : List ℕ) (p : FolderEffect) → IsInputAsked (StoreInput name) p → IsInputAsked (NarrowStore name) p
narrow_asked name p h = (h.0, inl h.1, h.2)

-- a store that was not opened is none of one-byte samples
pub narrow_refused : (name : List ℕ) (refusal : Refusal) (p : FolderEffect) → Refused (StoreInput name) refusal p → Refused (NarrowStore name) refusal p
narrow_refused name refusal p h = record {
  cause = narrow_cause name refusal p h.cause;
  files = h.files;
  asked = elim h.asked [ inl same ↦ inl same | inr asks ↦ inr (narrow_asked name p asks) ];
  faults = h.faults;
}

two : (depth : ℕ) → IsDepth depth → depth ≢ 1 → depth ≡ 2
two depth (inl one) other = absurd (other one)
two depth (inr is) other = is

-- a store of two-byte samples that was opened and closed is none either
pub wide_refused : (name : List ℕ) (named : Bor (List ℕ)) (shape : Shape) (depth : ℕ) (file : OpenFileState) (before opened after : FolderState)
    → named.now ≡ name → IsDepth depth → depth ≢ 1
    → OpensStore name shape depth file (record { before = before; after = opened }) → Closed file (record { before = opened; after = after })
    → Refused (NarrowStore name) (Flawed named AlreadyWide) (record { before = before; after = after })
wide_refused name named shape depth file before opened after is lawful wide o c = record {
  cause = (
    is,
    inr refl,
    λ known.
        let there = store_there name shape depth file (record { before = before; after = opened }) o known in
        record {
          bytes = there.0;
          there = there.1;
          is = inr (record { shape = shape; is = subst (λ (d : ℕ). IsStore there.0 shape d) (two depth lawful wide) there.2; flaw_is = refl });
        },
  );
  files = c.files ∙ o.files;
  asked = inr (
    header_places,
    inl (header_asked name shape depth file (record { before = before; after = opened }) o),
    shut_asked name shape depth file before opened after o c,
  );
  faults = later before opened after o.faults c.kept;
}

-- Textures that are opened and looked over, and what is asked of their files.
use Rattle.std.proofs.Common.{◌≡◌, ℕ, ◌≤◌, List, [], ◌∷◌, ◌++◌, Option, Some, None, Ok, refl, sym, ap, subst, ◌∙◌, inl, inr, append_assoc}
use Rattle.std.specs.Prelude.{Result, OnSome, unwrap_or}
use Rattle.std.specs.Option.{option_map, IsSome, IfSome, is_some}
use Rattle.std.proofs.lemmas.Bool.{false≢true}
use Rattle.std.proofs.lemmas.List.{append-nil, append_cancel_left}
use Rattle.vt_outside.specs.Files.{Files, Asked, bytes_at, with_places}
use Rattle.vt_outside.specs.declared.place.Place.{Place}
use Rattle.vt_outside.proofs.Refusing.{rose_later}
use Rattle.vt_ppm.specs.declared.error.PpmError.{PpmError}
use Rattle.vt_ppm.specs.declared.header.Header.{Header}
use Rattle.vt_ppm.specs.Format.{IsTexture}
use Rattle.vt_ppm.specs.Reads.{AsksPpmHeader, ReadsFront}
use Rattle.vt_ppm.specs.Strips.{HasRasterIfKnown, ChecksPieces, texture_of}
use Rattle.vt_outside.specs.Effects.{FolderEffect}
use Rattle.vt_command_inputs.specs.Inputs.{Input, AreStrips, AsksStrips, IsFlawOf}
use Rattle.vt_command_inputs.specs.Reads.{OpenFileState, Visits, IsCausedIn, LooksOver, MayLookOver, SeesTexture, OpensTexture}
use Rattle.vt_command_inputs.specs.declared.refusal.Refusal.{Refusal}
use Rattle.vt_command_inputs.specs.declared.refusal.Refusal.TheVariants.{NoMemory, Usage, Fault, Flawed, TooFewFrames, DoesNotFit}

-- the header was read, and then rows
pub seen : (known : Option (List ℕ)) (header : Header) (answer : Result (Unit {0}) PpmError) (before mid after : Option (List Place))
    → ReadsFront known before mid → HasRasterIfKnown known header → LooksOver header answer mid after → SeesTexture known header answer before after
seen known header answer before mid after front behind rows = record {
  each = λ old is.
      let here : mid ≡ Some (old ++ (front.front ∷ [])) = front.gained ∙ ap (option_map (λ held. held ++ (front.front ∷ []))) is in
      let there : after ≡ Some ((old ++ (front.front ∷ [])) ++ rows.rows.places) =
      rows.rows.gained ∙ ap (option_map (λ held. held ++ rows.rows.places)) here in (
        front.front ∷ rows.rows.places,
        record {
          front = front.front;
          earlier = old ++ (front.front ∷ []);
          seen = rows.rows.places;
          is_front = front.is_front;
          front_read = front.read;
          behind = behind;
          pieces = λ may. subst (λ (a : Option (List Place)). ChecksPieces header answer (Some (old ++ (front.front ∷ []))) a) there
              (subst (λ (b : Option (List Place)). ChecksPieces header answer b after) here (rows.pieces may));
          unread = λ never. append_cancel_left (old ++ (front.front ∷ [])) rows.rows.places []
              (ap (λ (known : Option (List Place)). unwrap_or known []) (sym there ∙ rows.unread never ∙ here) ∙ sym (append-nil (old ++ (front.front ∷ []))));
          rows = rows.rows.each;
          are = refl;
        },
        there ∙ ap Some (append_assoc old (front.front ∷ []) rows.rows.places),
      );
}

-- the header and then rows were asked
rows_visited : (tile : ℕ) (before after : OpenFileState) (header : Header) (answer : Result (Unit {0}) PpmError) (asked : Option (List Place))
    → before.asked ≡ asked → SeesTexture before.bytes header answer before.asked after.asked → (before.asked ≡ None → after.asked ≡ None)
    → after.bytes ≡ before.bytes → after.name ≡ before.name → before.faults ≤ after.faults
    → Visits (AsksStrips tile) (record { before = before; after = after })
rows_visited tile before after header answer None is sees none bytes name faults = record {
  places = [];
  may = inl tt;
  asked = none is ∙ ap (option_map (λ (old : List Place). old ++ [])) (sym is);
  bytes = bytes;
  name = name;
  faults = faults;
}
rows_visited tile before after header answer (Some old) is sees none bytes name faults =
    let places = sees.each old is in
    record {
      places = places.0;
      may = inr (inl (header, answer, places.1));
      asked = places.2 ∙ ap (option_map (λ (held : List Place). held ++ places.0)) (sym is);
      bytes = bytes;
      name = name;
      faults = faults;
    }

none_then : (first next : List Place) (before mid after : Option (List Place)) → mid ≡ option_map (λ held. held ++ first) before
    → after ≡ option_map (λ held. held ++ next) mid → before ≡ None → after ≡ None
none_then first next before mid after a b is =
    b ∙ ap (option_map (λ held. held ++ next)) (a ∙ ap (option_map (λ held. held ++ first)) is)

-- the header was read, and then rows or nothing
pub tried_visited : (tile : ℕ) (before after : OpenFileState) (mid : Option (List Place)) (header : Header)
    → AsksPpmHeader before.bytes before.asked mid → ReadsFront before.bytes before.asked mid → HasRasterIfKnown before.bytes header
    → MayLookOver header mid after.asked
    → after.bytes ≡ before.bytes → after.name ≡ before.name → before.faults ≤ after.faults
    → Visits (AsksStrips tile) (record { before = before; after = after })
tried_visited tile before after mid header asks front behind (inl same) bytes name faults = record {
  places = asks.places;
  may = inl asks.each;
  asked = same ∙ asks.gained;
  bytes = bytes;
  name = name;
  faults = faults;
}
tried_visited tile before after mid header asks front behind (inr rows) bytes name faults =
    rows_visited tile before after header rows.0 before.asked refl
    (seen before.bytes header rows.0 before.asked mid after.asked front behind rows.1)
    (none_then (front.front ∷ []) rows.1.rows.places before.asked mid after.asked front.gained rows.1.rows.gained)
    bytes name faults

-- why an open file was refused that was read before
pub caused_later : (input : Input) (old mid new : OpenFileState) (refusal : Refusal) → mid.bytes ≡ old.bytes → old.faults ≤ mid.faults
    → IsCausedIn input (record { before = mid; after = new }) refusal → IsCausedIn input (record { before = old; after = new }) refusal
caused_later input old mid new NoMemory bytes faults h = tt
caused_later input old mid new Usage bytes faults h = h
caused_later input old mid new (TooFewFrames frames needed) bytes faults h = h
caused_later input old mid new (DoesNotFit picture wanted room) bytes faults h = h
caused_later input old mid new Fault bytes faults h = rose_later old.faults mid.faults new.faults faults h
caused_later input old mid new (Flawed name flaw) bytes faults h =
    (h.0, h.1, subst (λ (known : Option (List ℕ)). IfSome known (λ b. IsFlawOf input b flaw)) bytes h.2)

texture_held : (name : List ℕ) (header : Header) (o : Option (List ℕ)) (files : Option Files) → o ≡ bytes_at files name → is_some o ≡ is_some files
    → ((b : List ℕ) → o ≡ Some b → IsTexture b (texture_of header b)) → IsSome files
    → (b : List ℕ) × (o ≡ Some b) × (bytes_at files name ≡ Some b) × IsTexture b (texture_of header b)
texture_held name header None files same known_too is known = absurd (false≢true (known_too ∙ known))
texture_held name header (Some b) files same known_too is known = (b, refl, sym same, is b refl)

-- what a folder of known content holds of a texture that was opened
pub texture_there : (name : List ℕ) (header : Header) (file : OpenFileState) (p : FolderEffect) → OpensTexture name header file p → IsSome p.before.files
    → (b : List ℕ) × (file.bytes ≡ Some b) × (bytes_at p.before.files name ≡ Some b) × IsTexture b (texture_of header b)
texture_there name header file p o known = texture_held name header file.bytes p.before.files o.bytes o.known_too o.is.each known

-- a texture that was looked over and then read by strips was asked for nothing else
pub strips_asked : (name of : List ℕ) (tile : ℕ) (known there : Option (List ℕ)) (header : Header) (strips : List Place) (asked after : Option Asked)
    (held : Option (List Place))
    → known ≡ there → SeesTexture known header (Ok tt) (option_map (λ _. []) asked) held → OnSome asked (of ≡ name) → AreStrips header tile strips
    → after ≡ option_map (with_places of (option_map (λ (old : List Place). old ++ strips) held)) asked
    → (places : List Place) × AsksStrips tile there places × (after ≡ option_map (with_places name (Some places)) asked)
strips_asked name of tile known there header strips None after held same sees named are is = ([], inl tt, is)
strips_asked name of tile known there header strips (Some a) after held same sees named are is =
    let places = sees.each [] refl in (
      places.0 ++ strips,
      subst (λ (t : Option (List ℕ)). AsksStrips tile t (places.0 ++ strips)) same (inr (inr (header, places.0, strips, places.1, are, refl))),
      is ∙ ap (λ (h : Option (List Place)). Some (with_places of (option_map (λ (old : List Place). old ++ strips) h) a)) places.2
          ∙ ap (λ (n : List ℕ). Some (with_places n (Some (places.0 ++ strips)) a)) named,
    )

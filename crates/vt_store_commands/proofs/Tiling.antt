-- A texture that is to have few enough pages, from one that was opened and looked over, and its store.
use Rattle.std.proofs.Common.{◌≡◌, ℕ, ◌≤◌, List, [], ◌∷◌, ◌++◌, Option, Some, None, Ok, Err, true, false, refl, sym, ap, ◌∙◌, subst, inl, inr, arith}
use Rattle.std.proofs.lemmas.Bool.Decides.{nat_tests}
use Rattle.std.specs.Prelude.{Bool, ◌&&◌, if◌then◌else◌, nat_le, Result}
use Rattle.std.specs.Borrow.{Bor}
use Rattle.std.specs.Option.{option_map, unwrap_or}
use Rattle.vt_definitions.specs.Limits.{most_pages}
use Rattle.vt_definitions.specs.Tiles.{IsTileSide, is_tile_side}
use Rattle.vt_outside.specs.Files.{with_places}
use Rattle.vt_outside.specs.declared.place.Place.{Place}
use Rattle.vt_outside.specs.declared.answers.OutsideError.{OutsideError}
use Rattle.vt_ppm.specs.declared.header.Header.{Header}
use Rattle.vt_ppm.specs.Strips.{IsTextureHeader, texture_of}
use Rattle.vt_pages.specs.Shape.{shape_of, is_texture_side}
use Rattle.vt_pages.specs.Pages.{refusal_of, pages_of}
use Rattle.vt_pages.specs.declared.PagesError.{PagesError}
use Rattle.vt_pages.specs.declared.PagesError.TheVariants as pages_error
use Rattle.vt_ppm.specs.StripPlaces.{StripsTried, strip_place, strip_places}
use Rattle.vt_outside.specs.Effects.{FolderState}
use Rattle.vt_outside.specs.Expectations.{Writes}
use Rattle.vt_command_inputs.specs.Inputs.{TiledTexture, TextureContent, AreStrips}
use Rattle.vt_command_inputs.specs.OpenWrites.{WritesMade}
use Rattle.vt_command_inputs.specs.Reads.{OpenFileState, TookInput, OpensTexture, Closed, Refused, IsRefusalCausedBy}
use Rattle.vt_store_commands.specs.commands.Tile.{flaw_of_pages, made_store, expected_store, store_file, IsTooMany}
use Rattle.vt_command_inputs.specs.declared.flaws.Flaw.{Flaw}
use Rattle.vt_command_inputs.specs.declared.flaws.Flaw.TheVariants as flaws
use Rattle.vt_command_inputs.specs.declared.refusal.Refusal.{Refusal}
use Rattle.vt_command_inputs.specs.declared.refusal.Refusal.TheVariants.{NoMemory, Usage, Fault, Flawed, TooFewFrames, DoesNotFit}
use Rattle.vt_command_inputs.proofs.OpenWriting.{read_first, expected_written, expected_stopped}
use Rattle.vt_command_inputs.proofs.Reading.{gains_none}
use Rattle.vt_command_inputs.proofs.Seeing.{texture_there, strips_asked}

-- a geometry is refused for too many pages
IsMany : PagesError → Type 0
IsMany (pages_error.TooManyPages n) = Unit {0}
IsMany pages_error.BadTile = ⊥
IsMany pages_error.BadSide = ⊥

-- the sides of a texture pass the test of geometries
lawful_sides : (w h : ℕ) → 1 ≤ w → w ≤ 16384 → 1 ≤ h → h ≤ 16384 → (is_texture_side w && is_texture_side h) ≡ true
lawful_sides w h a b c d = grind (arith, nat_tests)

chosen : (b : Bool) (n : ℕ) (e : PagesError) → (if b then None else Some (pages_error.TooManyPages n)) ≡ Some e → IsMany e
unfolding IsMany
chosen true n e h = absurd (cc)
chosen false n e h = let same : pages_error.TooManyPages n ≡ e = cc in subst IsMany same tt

only_many : (w h t : ℕ) (e : PagesError) → 1 ≤ w → w ≤ 16384 → 1 ≤ h → h ≤ 16384 → IsTileSide t → refusal_of (shape_of w h t) ≡ Some e → IsMany e
unfolding refusal_of
only_many w h t e a b c d side refused =
    let lawful : is_tile_side t ≡ true = side in
    chosen (nat_le (pages_of (shape_of w h t)) most_pages) (pages_of (shape_of w h t)) e
    (rw (lawful, lawful_sides w h a b c d) at refused)

-- a lawful tile side and the sides of a texture are refused for too many pages alone
pub too_many : (header : Header) (tile : ℕ) (name : Bor (List ℕ)) (flaw : Flaw) (e : PagesError) → IsTextureHeader header → IsTileSide tile
    → refusal_of (shape_of header.width header.height tile) ≡ Some e → flaw ≡ flaw_of_pages e
    → IsTooMany name.now (shape_of header.width header.height tile) (Flawed name flaw)
unfolding IsMany
too_many header tile name flaw (pages_error.TooManyPages n) lawful side refused is =
    subst (λ (f : Flaw). IsTooMany name.now (shape_of header.width header.height tile) (Flawed name f)) (sym is) (refl, refused)
too_many header tile name flaw pages_error.BadTile lawful side refused is =
    absurd (only_many header.width header.height tile pages_error.BadTile lawful.sides.some_columns lawful.sides.few_columns
    lawful.sides.some_rows lawful.sides.few_rows side refused)
too_many header tile name flaw pages_error.BadSide lawful side refused is =
    absurd (only_many header.width header.height tile pages_error.BadSide lawful.sides.some_columns lawful.sides.few_columns
    lawful.sides.some_rows lawful.sides.few_rows side refused)

many_cause : (name : List ℕ) (tile : ℕ) (header : Header) (file : OpenFileState) (refusal : Refusal) (before opened after : FolderState)
    → OpensTexture name header file (record { before = before; after = opened })
    → IsTooMany name (shape_of header.width header.height tile) refusal
    → IsRefusalCausedBy (TiledTexture name tile) (record { before = before; after = after }) refusal
many_cause name tile header file NoMemory before opened after o h = tt
many_cause name tile header file Usage before opened after o h = h
many_cause name tile header file (TooFewFrames frames needed) before opened after o h = h
many_cause name tile header file (DoesNotFit picture wanted room) before opened after o h = h
many_cause name tile header file Fault before opened after o h = absurd h
many_cause name tile header file (Flawed named (flaws.TooManyPages n)) before opened after o h = (
  h.0,
  inr (n, refl),
  λ known.
      let there = texture_there name header file (record { before = before; after = opened }) o known in
      record {
        bytes = there.0;
        there = there.2;
        is = inr (record { texture = texture_of header there.0; is = there.3; pages = n; many = h.1; flaw_is = refl });
      },
)
many_cause name tile header file (Flawed named (flaws.BadLine n)) before opened after o h = absurd h
many_cause name tile header file (Flawed named (flaws.NoKey n)) before opened after o h = absurd h
many_cause name tile header file (Flawed named flaws.TooManyPictures) before opened after o h = absurd h
many_cause name tile header file (Flawed named flaws.BadMagic) before opened after o h = absurd h
many_cause name tile header file (Flawed named (flaws.BadHeader n)) before opened after o h = absurd h
many_cause name tile header file (Flawed named flaws.BadSize) before opened after o h = absurd h
many_cause name tile header file (Flawed named flaws.BadMaximum) before opened after o h = absurd h
many_cause name tile header file (Flawed named (flaws.Truncated n m)) before opened after o h = absurd h
many_cause name tile header file (Flawed named (flaws.SampleOver n)) before opened after o h = absurd h
many_cause name tile header file (Flawed named flaws.BadGeometry) before opened after o h = absurd h
many_cause name tile header file (Flawed named (flaws.WrongLength n m)) before opened after o h = absurd h
many_cause name tile header file (Flawed named flaws.AlreadyWide) before opened after o h = absurd h

-- no strips are some
pub no_strips : (header : Header) (tile : ℕ) → AreStrips header tile []
no_strips header tile = (0, omega arith, inl refl)

-- a texture that was opened, looked over and closed, and has too many pages
pub many_refused : (name : List ℕ) (tile : ℕ) (header : Header) (file : OpenFileState) (refusal : Refusal) (before opened after : FolderState)
    → OpensTexture name header file (record { before = before; after = opened }) → Closed file (record { before = opened; after = after })
    → IsTooMany name (shape_of header.width header.height tile) refusal
    → Refused (TiledTexture name tile) refusal (record { before = before; after = after })
many_refused name tile header file refusal before opened after o c h = record {
  cause = many_cause name tile header file refusal before opened after o h;
  files = c.files ∙ o.files;
  asked = inr (strips_asked name file.name tile file.bytes _ header [] before.asked after.asked file.asked o.bytes o.asked o.name_is
      (no_strips header tile)
      (c.asked ∙ ap (option_map (with_places file.name file.asked)) o.no_places
      ∙ ap (λ (h : Option (List Place)). option_map (with_places file.name h) before.asked) (gains_none file.asked)));
  faults = let first : before.faults ≤ opened.faults = o.faults in let more : opened.faults ≤ after.faults = c.kept in omega (arith, first, more);
}

-- the texture was read
pub texture_took : (name new : List ℕ) (tile : ℕ) (header : Header) (file : OpenFileState) (before opened after : FolderState)
    (r : Result (Unit {0}) OutsideError)
    → refusal_of (shape_of header.width header.height tile) ≡ None → OpensTexture name header file (record { before = before; after = opened })
    → WritesMade file (made_store header tile) (AreStrips header tile) new (record { before = opened; after = after }) r
    → TookInput (TiledTexture name tile) (TextureContent (texture_of header (unwrap_or file.bytes []))) (record { before = before; after = read_first before after })
texture_took name new tile header file before opened after r few o w = record {
  held = λ known.
      let there = texture_there name header file (record { before = before; after = opened }) o known in
      let same : unwrap_or file.bytes [] ≡ there.0 = ap (λ (h : Option (List ℕ)). unwrap_or h []) there.1 in
      record { bytes = there.0; there = there.2; is = (rw same there.3, few) };
  files = refl;
  asked = strips_asked name file.name tile file.bytes _ header w.places before.asked after.asked file.asked o.bytes o.asked o.name_is w.are
      (w.asked ∙ ap (option_map (with_places file.name (option_map (λ (old : List Place). old ++ w.places) file.asked))) o.no_places);
  faults = omega arith;
}

-- its store was written
pub store_written : (name new : List ℕ) (tile : ℕ) (header : Header) (file : OpenFileState) (before opened after : FolderState)
    → OpensTexture name header file (record { before = before; after = opened })
    → WritesMade file (made_store header tile) (AreStrips header tile) new (record { before = opened; after = after }) (Ok tt)
    → Writes {T = Unit {0}} (expected_store new (texture_of header (unwrap_or file.bytes [])) tile).files
    (record { before = read_first before after; after = after }) (Ok tt)
unfolding store_file
store_written name new tile header file before opened after o w =
    expected_written (made_store header tile) (AreStrips header tile) new file before opened after o.known_too o.files o.faults w

-- a prefix of it was
pub store_stopped : (name new : List ℕ) (tile : ℕ) (header : Header) (file : OpenFileState) (before opened after : FolderState) (error : OutsideError)
    → OpensTexture name header file (record { before = before; after = opened })
    → WritesMade file (made_store header tile) (AreStrips header tile) new (record { before = opened; after = after }) (Err error)
    → Writes {T = Unit {0}} (expected_store new (texture_of header (unwrap_or file.bytes [])) tile).files
    (record { before = read_first before after; after = after }) (Err error)
unfolding store_file
store_stopped name new tile header file before opened after error o w =
    expected_stopped (made_store header tile) (AreStrips header tile) new file before opened after error o.known_too o.files o.faults w

-- the strips that were asked
pub strips_tried : (header : Header) (tile : ℕ) (before after : Option (List Place)) → StripsTried header tile before after
    → (places : List Place) × AreStrips header tile places × (after ≡ option_map (λ old. old ++ places) before)
strips_tried header tile before after t = elim t.asked [
  | inl all ↦ (strip_places header tile t.count, (t.count, t.few, inl refl), all)
  | inr last ↦ (strip_places header tile t.count ++ strip_place header tile true t.count ∷ [], (t.count, t.few, inr (last.0, refl)), last.1)
]

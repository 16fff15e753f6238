-- What is left of expected pictures, from what their writes did.
use Rattle.std.proofs.Common.{◌≡◌, ℕ, List, [], ◌∷◌, ◌++◌, Ok, Err, refl, sym, ap, subst, ◌∙◌, append_assoc, arith}
use Rattle.std.specs.Prelude.{◌+◌, ◌<◌, take, drop}
use Rattle.std.specs.Option.{option_map}
use Rattle.std.proofs.lemmas.List.{take-append-drop}
use Rattle.std.proofs.lemmas.List.FromFn.{take-map-range_with_len, map-range_with_len_more}
use Rattle.vt_outside.specs.declared.answers.OutsideError.{OutsideError}
use Rattle.vt_outside.specs.Effects.{FolderState}
use Rattle.vt_outside.specs.Expectations.{ExpectedFile, with_files, IsPart, AsksNone, Writes}
use Rattle.vt_pictures.specs.Pictures.{expected_picture, expected_pictures}
use Rattle.vt_outside.proofs.Writing.{asks_both, fails_later, no_files, part_later, known_then}

-- a folder whose first pictures were written
pub record HasPictures (prefix : List ℕ) (file : ℕ → List ℕ) (count : ℕ) (before after : FolderState) : Type 0 where
  pub files : after.files ≡ option_map (with_files (expected_pictures prefix file count)) before.files
  pub asks : AsksNone (record { before = before; after = after })

pub no_pictures : (prefix : List ℕ) (file : ℕ → List ℕ) (s : FolderState) → HasPictures prefix file 0 s s
no_pictures prefix file s = record { files = no_files s.files; asks = record { asked = refl; faults = omega arith } }

pictures_more : (prefix : List ℕ) (file : ℕ → List ℕ) (count : ℕ)
    → expected_pictures prefix file (count + 1) ≡ expected_pictures prefix file count ++ (expected_picture prefix file count ∷ [])
pictures_more prefix file count = map-range_with_len_more (expected_picture prefix file) 0 count count (omega arith)

-- one more picture was written
pub more_pictures : (prefix : List ℕ) (file : ℕ → List ℕ) (count : ℕ) (before mid after : FolderState)
    → HasPictures prefix file count before mid → Writes {T = Unit {0}} (expected_picture prefix file count ∷ []) (record { before = mid; after = after }) (Ok tt)
    → HasPictures prefix file (count + 1) before after
more_pictures prefix file count before mid after h more = record {
  files = more.1
      ∙ ap (option_map (with_files (expected_picture prefix file count ∷ []))) h.files
      ∙ sym (known_then (expected_pictures prefix file count) (expected_picture prefix file count ∷ []) before.files)
      ∙ ap (λ (files : List ExpectedFile). option_map (with_files files) before.files) (sym (pictures_more prefix file count));
  asks = asks_both before mid after h.asks more.0;
}

pictures_split : (prefix : List ℕ) (file : ℕ → List ℕ) (count all : ℕ) → count < all
    → expected_pictures prefix file all ≡ expected_pictures prefix file count ++ ((expected_picture prefix file count ∷ []) ++ drop (count + 1) (expected_pictures prefix file all))
pictures_split prefix file count all less =
    let expected = expected_pictures prefix file all in
    sym (take-append-drop (count + 1) expected)
    ∙ ap (λ (files : List ExpectedFile). files ++ drop (count + 1) expected)
    (take-map-range_with_len (expected_picture prefix file) 0 all (count + 1) (omega arith) ∙ pictures_more prefix file count)
    ∙ append_assoc (expected_pictures prefix file count) (expected_picture prefix file count ∷ []) (drop (count + 1) expected)

-- the next picture was not written whole
pub stopped_pictures : (prefix : List ℕ) (file : ℕ → List ℕ) (count all : ℕ) (before mid after : FolderState) (error : OutsideError) → count < all
    → HasPictures prefix file count before mid → Writes {T = Unit {0}} (expected_picture prefix file count ∷ []) (record { before = mid; after = after }) (Err error)
    → Writes {T = Unit {0}} (expected_pictures prefix file all) (record { before = before; after = after }) (Err error)
stopped_pictures prefix file count all before mid after error less h part = (
  asks_both before mid after h.asks part.0,
  subst (λ (files : List ExpectedFile). IsPart files before.files after.files) (sym (pictures_split prefix file count all less))
      (part_later (expected_pictures prefix file count) (expected_picture prefix file count ∷ [])
      (drop (count + 1) (expected_pictures prefix file all)) before.files mid.files after.files h.files part.1),
  fails_later before.faults mid.faults after.faults error h.asks.faults part.2,
)

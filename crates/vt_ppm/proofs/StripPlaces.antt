-- Which strips of a texture were asked.
use Rattle.std.proofs.Common.{◌≡◌, ℕ, ◌+◌, ◌*◌, ◌<◌, ◌≤◌, ◌⊎◌, inl, inr, Bool, true, false, Option, Some, None, List, [], ◌∷◌, ◌++◌, refl, sym, ap, ◌∙◌, arith, append_assoc}
use Rattle.std.proofs.lemmas.List.{append-nil}
use Rattle.std.proofs.lemmas.List.FromFn.{map-range_with_len_more}
use Rattle.std.specs.Prelude.{option_map}
use Rattle.vt_outside.specs.Files.{noted}
use Rattle.vt_outside.specs.declared.place.Place.{Place}
use Rattle.vt_ppm.specs.declared.header.Header.{Header}
use Rattle.vt_ppm.specs.Strips.{RowsAsked, row_length, row_start}
use Rattle.vt_ppm.specs.StripPlaces.{StripsAsked, StripsTried, strip_rows, strip_place, strip_places, strips_of}

-- one strip more was asked
next_strip : (h h' : Header) (t i y count : ℕ) (failed : Bool) (a0 a1 a2 : Option (List Place)) → StripsAsked h t i a0 a1 → h' ≡ h
    → y ≡ i * t → count ≡ strip_rows h t i → RowsAsked h' y count failed a1 a2
    → a2 ≡ option_map (λ places. places ++ (strip_places h t i ++ strip_place h t failed i ∷ [])) a0
next_strip h h' t i y count failed a0 a1 a2 before eh ey ec one =
    one ∙ ap (λ (z : Header). option_map (noted (row_start z y) (count * row_length z) failed) a1) eh
    ∙ ap (λ n. option_map (noted (row_start h n) (count * row_length h) failed) a1) ey
    ∙ ap (λ n. option_map (noted (row_start h (i * t)) (n * row_length h) failed) a1) ec
    ∙ ap (option_map (noted (row_start h (i * t)) (strip_rows h t i * row_length h) failed)) before
    ∙ joined a0 where
      joined : (a : Option (List Place)) → option_map (noted (row_start h (i * t)) (strip_rows h t i * row_length h) failed)
          (option_map (λ places. places ++ strip_places h t i) a)
          ≡ option_map (λ places. places ++ (strip_places h t i ++ strip_place h t failed i ∷ [])) a
      joined None = refl
      joined (Some places) = ap Some (append_assoc places (strip_places h t i) (strip_place h t failed i ∷ []))

pub more_strips : (h h' : Header) (t i y count : ℕ) (a0 a1 a2 : Option (List Place)) → StripsAsked h t i a0 a1 → h' ≡ h
    → y ≡ i * t → count ≡ strip_rows h t i → RowsAsked h' y count false a1 a2 → StripsAsked h t (i + 1) a0 a2
more_strips h h' t i y count a0 a1 a2 before eh ey ec one =
    next_strip h h' t i y count false a0 a1 a2 before eh ey ec one
    ∙ ap (λ l. option_map (λ places. places ++ l) a0) (sym (map-range_with_len_more (strip_place h t false) 0 i i (omega arith)))

pub no_strips : (h : Header) (t : ℕ) (a0 a1 : Option (List Place)) → a1 ≡ a0 → StripsAsked h t 0 a0 a1
no_strips h t None a1 same = same
no_strips h t (Some places) a1 same = same ∙ ap Some (sym (append-nil places))

pub strips_front : (h : Header) (t i : ℕ) (a0 a1 : Option (List Place)) → i ≤ strips_of h t → StripsAsked h t i a0 a1 → StripsTried h t a0 a1
strips_front h t i a0 a1 few before = record { count = i; few = few; asked = inl before }

pub strip_tried : (h h' : Header) (t i y count : ℕ) (a0 a1 a2 : Option (List Place)) → i < strips_of h t → StripsAsked h t i a0 a1 → h' ≡ h
    → y ≡ i * t → count ≡ strip_rows h t i → RowsAsked h' y count false a1 a2 ⊎ RowsAsked h' y count true a1 a2 → StripsTried h t a0 a2
strip_tried h h' t i y count a0 a1 a2 few before eh ey ec (inl one) =
    strips_front h t (i + 1) a0 a2 (omega arith) (more_strips h h' t i y count a0 a1 a2 before eh ey ec one)
strip_tried h h' t i y count a0 a1 a2 few before eh ey ec (inr one) = record {
  count = i;
  few = omega arith;
  asked = inr (few, next_strip h h' t i y count true a0 a1 a2 before eh ey ec one);
}

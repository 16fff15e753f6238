-- The pieces in which a raster is looked over.
use Rattle.std.proofs.Common.{◌≡◌, ℕ, zero, suc, ◌+◌, ◌-◌, ◌*◌, ◌/◌, ◌<◌, ◌≤◌, Bool, true, false, List, [], ◌∷◌, ◌++◌, min, length, take, All, Option, Some, None, option_map, IfSome, Result, Ok, Err, refl, sym, ap, ◌∙◌, subst, arith, append_assoc, append-nil}
use Rattle.std.proofs.Math.Nat.{div-mul-le_self}
use Rattle.std.proofs.lemmas.List.FromFn.{map-range_with_len_more}
use Rattle.std.proofs.lemmas.List.Elements.{All-nil, All-cons, All-append}
use Rattle.std.proofs.lemmas.List.{length-take-le}
use Rattle.std.proofs.lemmas.Nat.{mul-le, le-div}
use Rattle.vt_definitions.specs.Depths.{texel_length}
use Rattle.vt_outside.specs.declared.place.Place.{Place}
use Rattle.vt_outside.specs.Files.{noted}
use Rattle.vt_ppm.specs.declared.error.PpmError.{PpmError}
use Rattle.vt_ppm.specs.declared.error.PpmError.TheVariants.{BadMagic, BadHeader, BadSize, BadMaximum, Truncated, SampleOver, Failed, NoMemory}
use Rattle.vt_ppm.specs.declared.header.Header.{Header}
use Rattle.vt_ppm.specs.Format.{depth_of}
use Rattle.vt_ppm.proofs.SampleValues.{by_depth, depth_is}
use Rattle.vt_ppm.specs.Strips.{IsTextureHeader, IsRowsPlace, GainsRows, HasSamplesIfKnown, AreRowsUpTo, RowsAsked, ChecksRows, ChecksPieces, RasterPiecesAsked, row_length, row_start, piece_rows, pieces_of, raster_piece_count, raster_piece_place, raster_piece_places}

-- so many rows from one on are a piece, of so many rows in pieces of so many
pub record IsPieceOf (step rows i y count : ℕ) : Type 0 where
  pub below : i < (rows + step - 1) / step
  pub begins : y ≡ i * step
  pub counts : count ≡ min step (rows - i * step)
  pub inside : y + count ≤ rows
  pub here : min (i * step) rows ≡ y
  pub next : min ((i + 1) * step) rows ≡ y + count

piece_numbers : (step rows i y count : ℕ) → 1 ≤ step → i < (rows + step - 1) / step → y ≡ i * step → count ≡ min step (rows - y)
    → IsPieceOf step rows i y count
piece_numbers step rows i y count some below ef ec =
    let begins : i * step < rows =
    omega (arith, mul-le (i + 1) step ((rows + step - 1) / step) step (omega arith) (omega arith), div-mul-le_self (rows + step - 1) step) in
    let more : (i + 1) * step ≡ i * step + step = omega arith in
    record {
      below = below;
      begins = ef;
      counts = ec ∙ ap (λ n. min step (rows - n)) ef;
      inside = omega arith;
      here = omega arith;
      next = rw more (omega arith);
    }

pub piece_is : (h : Header) (step end i y count : ℕ) → step ≡ piece_rows h → 1 ≤ step → end ≡ pieces_of h → i < end → y ≡ i * step
    → count ≡ min step (h.height - y) → IsPieceOf (piece_rows h) h.height i y count
piece_is h step end i y count es some ee below ef ec =
    piece_numbers (piece_rows h) h.height i y count (subst (λ n. 1 ≤ n) es some) (subst (λ n. i < n) ee below) (ef ∙ ap (λ n. i * n) es)
    (ec ∙ ap (λ n. min n (h.height - y)) es)

-- after all pieces all rows are done
pub all_rows : (step rows : ℕ) → 1 ≤ step → min ((rows + step - 1) / step * step) rows ≡ rows
all_rows step rows some = omega arith

pub all_done : (h : Header) (step end i : ℕ) → step ≡ piece_rows h → 1 ≤ step → end ≡ pieces_of h → i ≡ end
    → min (i * piece_rows h) h.height ≡ h.height
all_done h step end i es some ee ei =
    ap (λ n. min (n * piece_rows h) h.height) (ei ∙ ee) ∙ all_rows (piece_rows h) h.height (subst (λ n. 1 ≤ n) es some)

-- before the first piece no rows are done, and none were asked
pub none_done : (known : Option (List ℕ)) (h : Header) → IfSome known (λ b. AreRowsUpTo h b (min (0 * piece_rows h) h.height))
none_done None h = tt
none_done (Some b) h =
    let none : min (0 * piece_rows h) h.height ≡ 0 = omega arith in
    let few : 3 * (h.width * min (0 * piece_rows h) h.height) ≡ 0 = ap (λ n. 3 * (h.width * n)) none ∙ omega arith in
    λ i below. absurd (omega (arith, few, below))

pub none_asked : (h : Header) (a : Option (List Place)) → RasterPiecesAsked h 0 a a
none_asked h None = refl
none_asked h (Some places) = ap Some (sym (append-nil places))

-- the room holds the rows of a piece
pub piece_room : (h : Header) (step row count rest room : ℕ) → step ≡ piece_rows h → row ≡ row_length h → count ≡ min step rest
    → room ≡ piece_rows h * row_length h → count * row ≤ room
piece_room h step row count rest room es er ec e =
    subst (λ n. count * row ≤ n) (ap (λ s. s * row) es ∙ ap (λ r. piece_rows h * r) er ∙ sym e)
    (mul-le count row step row (omega arith) (omega arith))

pub piece_cut : (h : Header) (step row count rest : ℕ) (buffer : List ℕ) (room : ℕ) → length buffer ≡ room → step ≡ piece_rows h → row ≡ row_length h
    → count ≡ min step rest → room ≡ piece_rows h * row_length h → length (take (count * row) buffer) ≡ count * row
piece_cut h step row count rest buffer room eb es er ec e =
    length-take-le (count * row) buffer (subst (λ n. count * row ≤ n) (sym eb) (piece_room h step row count rest room es er ec e))

-- one piece more was asked
module _ (h : Header) (i y count : ℕ) (a0 a1 a2 : Option (List Place)) (before : RasterPiecesAsked h i a0 a1) (p : IsPieceOf (piece_rows h) h.height i y count) where
  next_asked : (failed : Bool) → RowsAsked h y count failed a1 a2
      → a2 ≡ option_map (λ places. places ++ (raster_piece_places h i ++ raster_piece_place h failed i ∷ [])) a0
  next_asked failed one =
      one ∙ ap (λ n. option_map (noted (row_start h n) (count * row_length h) failed) a1) p.begins
      ∙ ap (λ n. option_map (noted (row_start h (i * piece_rows h)) (n * row_length h) failed) a1) p.counts
      ∙ ap (option_map (noted (row_start h (i * piece_rows h)) (raster_piece_count h i * row_length h) failed)) before
      ∙ joined a0
    where
      joined : (a : Option (List Place)) → option_map (noted (row_start h (i * piece_rows h)) (raster_piece_count h i * row_length h) failed)
          (option_map (λ places. places ++ raster_piece_places h i) a)
          ≡ option_map (λ places. places ++ (raster_piece_places h i ++ raster_piece_place h failed i ∷ [])) a
      joined None = refl
      joined (Some places) = ap Some (append_assoc places (raster_piece_places h i) (raster_piece_place h failed i ∷ []))

  pub more_asked : RowsAsked h y count false a1 a2 → RasterPiecesAsked h (i + 1) a0 a2
  more_asked one = next_asked false one
      ∙ ap (λ l. option_map (λ places. places ++ l) a0) (sym (map-range_with_len_more (raster_piece_place h false) 0 i i (omega arith)))

  pub last_asked : (e : PpmError) → ChecksRows h y count {T = Unit {0}} (Err e) a1 a2 → ChecksPieces h {T = Unit {0}} (Err e) a0 a2
  last_asked BadMagic none = none
  last_asked (BadHeader at) none = none
  last_asked BadSize none = none
  last_asked BadMaximum none = none
  last_asked (Truncated want have) none = none
  last_asked (SampleOver at) one = (
    i,
    p.below,
    subst (λ n. at < row_start h n) (ap (λ n. n + count) p.begins ∙ ap (λ n. i * piece_rows h + n) p.counts) one.0,
    more_asked one.1,
  )
  last_asked Failed one = (i, p.below, next_asked true one)
  last_asked NoMemory none = none

-- what was found of a piece, with what was found of those before it
pub found_next : (P Q : List ℕ → Type 0) (o n : Option (List ℕ)) → n ≡ o → IfSome o P → IfSome n (λ b. P b → Q b) → IfSome o Q
found_next P Q o n e before next = found o before (subst (λ t. IfSome t (λ b. P b → Q b)) e next)
  where
    found : (o : Option (List ℕ)) → IfSome o P → IfSome o (λ b. P b → Q b) → IfSome o Q
    found None p q = tt
    found (Some b) p q = q p

pub samples_known : (known : Option (List ℕ)) (h : Header) (k : ℕ) → k ≡ h.height → IfSome known (λ b. AreRowsUpTo h b k) → HasSamplesIfKnown known h
samples_known known h k e few = record { each = λ b same. subst (λ n. AreRowsUpTo h b n) e (subst (λ t. IfSome t (λ b. AreRowsUpTo h b k)) same few) }

-- a piece is rows of the raster
piece_of_rows : (h : Header) (failed : Bool) (i : ℕ) → i < pieces_of h → 1 ≤ piece_rows h → IsRowsPlace h (raster_piece_place h failed i)
piece_of_rows h failed i below some =
    let p = piece_numbers (piece_rows h) h.height i (i * piece_rows h) (raster_piece_count h i) some below refl refl in
    record { y = i * piece_rows h; count = raster_piece_count h i; inside = p.inside; begins = refl; whole = refl }

pieces_of_rows : (h : Header) (n : ℕ) → n ≤ pieces_of h → 1 ≤ piece_rows h → All (IsRowsPlace h) (raster_piece_places h n)
pieces_of_rows h zero few some = All-nil (IsRowsPlace h)
pieces_of_rows h (suc n) few some =
    let next : n + 1 ≡ suc n = omega arith in
    subst (λ k. All (IsRowsPlace h) (raster_piece_places h k)) next (subst (All (IsRowsPlace h))
    (sym (map-range_with_len_more (raster_piece_place h false) 0 n n (omega arith)))
    (All-append (IsRowsPlace h) (raster_piece_places h n) (raster_piece_place h false n ∷ []) (pieces_of_rows h n (omega arith) some)
    (All-cons (IsRowsPlace h) (raster_piece_place h false n) [] (piece_of_rows h false n (omega arith) some) (All-nil (IsRowsPlace h)))))

pub front_gains : (h : Header) (n : ℕ) (a0 a1 : Option (List Place)) → n ≤ pieces_of h → 1 ≤ piece_rows h → RasterPiecesAsked h n a0 a1 → GainsRows h a0 a1
front_gains h n a0 a1 few some asked = record { places = raster_piece_places h n; gained = asked; each = pieces_of_rows h n few some }

-- looking a raster over asks for places of its rows
pub check_gains : (h : Header) {T : Type 0} (r : Result T PpmError) (a0 a1 : Option (List Place)) → 1 ≤ piece_rows h → ChecksPieces h r a0 a1
    → GainsRows h a0 a1
check_gains h (Ok v) a0 a1 some asked = front_gains h (pieces_of h) a0 a1 (omega arith) some asked
check_gains h (Err (SampleOver at)) a0 a1 some asked = front_gains h (asked.0 + 1) a0 a1 (omega (arith, asked.1)) some asked.3
check_gains h (Err Failed) a0 a1 some asked = record {
  places = raster_piece_places h asked.0 ++ raster_piece_place h true asked.0 ∷ [];
  gained = asked.2;
  each = All-append (IsRowsPlace h) (raster_piece_places h asked.0) (raster_piece_place h true asked.0 ∷ [])
      (pieces_of_rows h asked.0 (omega (arith, asked.1)) some)
      (All-cons (IsRowsPlace h) (raster_piece_place h true asked.0) [] (piece_of_rows h true asked.0 asked.1 some) (All-nil (IsRowsPlace h)));
}
check_gains h (Err BadMagic) a0 a1 some none = absurd none
check_gains h (Err (BadHeader at)) a0 a1 some none = absurd none
check_gains h (Err BadSize) a0 a1 some none = absurd none
check_gains h (Err BadMaximum) a0 a1 some none = absurd none
check_gains h (Err (Truncated want have)) a0 a1 some none = absurd none
check_gains h (Err NoMemory) a0 a1 some none = absurd none

-- there are rows in a piece
pub some_rows : (h : Header) → IsTextureHeader h → 1 ≤ piece_rows h
some_rows h is = by_depth (λ d. 1 ≤ min h.height ((1048575 + texel_length d * h.width) / (texel_length d * h.width)))
    (rows_of 3 (omega (arith, is.sides.some_columns))) (rows_of 6 (omega (arith, is.sides.some_columns))) (depth_of h.maximum) (depth_is h.maximum)
  where
    rows_of : (z : ℕ) → 1 ≤ z * h.width → 1 ≤ min h.height ((1048575 + z * h.width) / (z * h.width))
    rows_of z some = omega (arith, is.sides.some_rows, le-div 1 (1048575 + z * h.width) (z * h.width) some (omega arith))

-- no rows were asked for
pub gains_no_rows : (h : Header) (places : Option (List Place)) → GainsRows h places places
gains_no_rows h None = record { places = []; gained = refl; each = All-nil (IsRowsPlace h) }
gains_no_rows h (Some held) = record { places = []; gained = ap Some (sym (append-nil held)); each = All-nil (IsRowsPlace h) }

-- What a name holds, and which places a store was asked, while a store is widened.
use Rattle.std.proofs.Common.{◌≡◌, ℕ, ◌+◌, ◌-◌, ◌*◌, ◌/◌, ◌<◌, ◌≤◌, ◌⊎◌, inl, inr, Bool, true, false, Option, Some, None, Ok, Err, List, [], ◌∷◌, ◌++◌, length, take, min, refl, sym, ap, ◌∙◌, subst, arith, append_assoc}
use Rattle.std.proofs.lemmas.List.{append-nil}
use Rattle.std.proofs.lemmas.List.FromFn.{map-range_with_len_more}
use Rattle.std.proofs.lemmas.Nat.{le-div}
use Rattle.std.proofs.lemmas.Slice.Eq.{bytes_eq-Decides}
use Rattle.std.proofs.Math.Seq.{take-append_seam}
use Rattle.std.specs.Prelude.{option_map, IfSome, Result, IsErrOf, bytes_eq}
use Rattle.std.specs.Result.{IsErrAnd}
use Rattle.vt_outside.specs.Counts.{Rose}
use Rattle.vt_outside.specs.Files.{Files, IsPiece, IsThere, noted, with_bytes, with_appended}
use Rattle.vt_outside.specs.declared.place.Place.{Place}
use Rattle.vt_outside.proofs.Changes.{known-bytes-appended, front_of_two, front_of_first}
use Rattle.vt_pages.specs.Shape.{Shape}
use Rattle.vt_pages.specs.Pages.{IsWithinLimits, pages_of, columns_at}
use Rattle.vt_pages.proofs.Counts.{lt_up}
use Rattle.vt_tiles.specs.declared.error.StoreError.{StoreError}
use Rattle.vt_tiles.specs.Format.{header_bytes, tile_start, tile_length, tiles_bytes, store_bytes, stored}
use Rattle.vt_tiles.specs.Places.{TilesAsked, piece_tiles, pieces_of, piece_count, piece_place, piece_places, PiecesAsked, FrontAsked}
use Rattle.vt_tiles.specs.StoreViews.{IsStore, IsStoreIfKnown}
use Rattle.vt_store.specs.Widening.{HoldsWidened, HoldsFront, GainsTiles, GainsFront, widened}
use Rattle.vt_store.proofs.Writing.{front_bytes, front_grown, front_none, front_all, store_split}

-- the tiles that were made of those that were read, where the store's bytes are known
pub known_tiles : (known known' : Option (List ℕ)) (s s' g : Shape) (d d' first count : ℕ) (narrow wide : List ℕ)
    → known' ≡ known → s' ≡ s → g ≡ s' → d' ≡ d → d ≡ 1 → IsStoreIfKnown known' s' d'
    → IfSome known (λ b. IsPiece b (tile_start s d first) narrow)
    → ((b : List ℕ) → IsStore b g 1 → IsPiece b (tile_start g 1 first) narrow → wide ≡ tiles_bytes g 2 (widened (stored b)) first count)
    → (b : List ℕ) → known ≡ Some b → wide ≡ tiles_bytes s 2 (widened (stored b)) first count
known_tiles known known' s s' g d d' first count narrow wide same es eg ed one store piece all b e =
    let there : IsStore b s' d' = store.each b (same ∙ e) in
    let here : IsStore b g d' = subst (λ (z : Shape). IsStore b z d') (sym eg) there in
    let is : IsStore b g 1 = subst (λ (n : ℕ). IsStore b g n) (ed ∙ one) here in
    let read : IsPiece b (tile_start s d first) narrow =
    subst (λ (t : Option (List ℕ)). IfSome t (λ b. IsPiece b (tile_start s d first) narrow)) e piece in
    let moved : IsPiece b (tile_start g d first) narrow = subst (λ (z : Shape). IsPiece b (tile_start z d first) narrow) (sym (eg ∙ es)) read in
    let at_one : IsPiece b (tile_start g 1 first) narrow = subst (λ (n : ℕ). IsPiece b (tile_start g n first) narrow) one moved in
    all b is at_one ∙ ap (λ z. tiles_bytes z 2 (widened (stored b)) first count) (eg ∙ es)

-- the name holds the widened store as far as the tiles of so many pages, where the old store's bytes are known
pub record HoldsPages (known : Option (List ℕ)) (s : Shape) (name : List ℕ) (before after : Option Files) (pages : ℕ) : Type 0 where
  pub written : List ℕ
  pub held : after ≡ option_map (with_bytes name written) before
  pub same : (b : List ℕ) → known ≡ Some b → written ≡ front_bytes s 2 (widened (stored b)) pages

pub pages_moved : (known : Option (List ℕ)) (s : Shape) (n : List ℕ) (f0 f1 : Option Files) (p q : ℕ) → p ≡ q
    → HoldsPages known s n f0 f1 p → HoldsPages known s n f0 f1 q
pages_moved known s n f0 f1 p q e done = subst (HoldsPages known s n f0 f1) e done

pub begun_pages : (known : Option (List ℕ)) (s g : Shape) (n : List ℕ) (f0 f1 : Option Files) → g ≡ s
    → f1 ≡ option_map (with_bytes n (header_bytes g 2)) f0 → HoldsPages known s n f0 f1 0
begun_pages known s g n f0 f1 eg held = record {
  written = header_bytes s 2;
  held = held ∙ ap (λ z. option_map (with_bytes n (header_bytes z 2)) f0) eg;
  same = λ b e. front_none s 2 (widened (stored b));
}

pub next_pages : (known : Option (List ℕ)) (s : Shape) (n : List ℕ) (f0 f1 f2 : Option Files) (p count q : ℕ) → HoldsPages known s n f0 f1 p
    → GainsTiles known s p count n f1 f2 → q ≡ p + count → HoldsPages known s n f0 f2 q
next_pages known s n f0 f1 f2 p count q done gained e = record {
  written = done.written ++ gained.tiles;
  held = gained.held ∙ ap (option_map (with_appended n gained.tiles)) done.held ∙ known-bytes-appended n done.written gained.tiles f0;
  same = λ b t.
      let src = widened (stored b) in
      let more : count ≡ q - p = omega arith in
      ap (λ l. l ++ gained.tiles) (done.same b t) ∙ ap (λ l. front_bytes s 2 src p ++ l) (gained.same b t)
      ∙ ap (λ m. front_bytes s 2 src p ++ tiles_bytes s 2 src p m) more ∙ front_grown s 2 src p q (omega arith);
}

pub all_pages : (known : Option (List ℕ)) (s : Shape) (n : List ℕ) (f0 f1 : Option Files) (p : ℕ) → p ≡ pages_of s
    → HoldsPages known s n f0 f1 p → HoldsWidened known s n f0 f1
all_pages known s n f0 f1 p e done = record {
  written = done.written;
  held = done.held;
  same = λ b t. done.same b t ∙ ap (front_bytes s 2 (widened (stored b))) e ∙ front_all s 2 (widened (stored b));
}

pub kept_pages : (known : Option (List ℕ)) (s : Shape) (n : List ℕ) (f0 f1 f2 : Option Files) (p : ℕ) → p ≤ pages_of s
    → HoldsPages known s n f0 f1 p → f2 ≡ f1 → HoldsFront known s n f0 f2
kept_pages known s n f0 f1 f2 p h done same = record {
  written = done.written;
  held = same ∙ done.held;
  part = λ b t.
      let src = widened (stored b) in (
        length (front_bytes s 2 src p),
        done.same b t ∙ sym (ap (take (length (front_bytes s 2 src p))) (store_split s 2 src p h)
            ∙ take-append_seam (front_bytes s 2 src p) (tiles_bytes s 2 src p (pages_of s - p))),
      );
}

pub part_pages : (known : Option (List ℕ)) (s : Shape) (n : List ℕ) (f0 f1 f2 : Option Files) (p count : ℕ) → p + count ≤ pages_of s
    → HoldsPages known s n f0 f1 p → GainsFront known s p count n f1 f2 → HoldsFront known s n f0 f2
part_pages known s n f0 f1 f2 p count h done gained = record {
  written = done.written ++ take gained.part gained.tiles;
  held = gained.held ∙ ap (option_map (with_appended n (take gained.part gained.tiles))) done.held
      ∙ known-bytes-appended n done.written (take gained.part gained.tiles) f0;
  part = λ b t.
      let src = widened (stored b) in
      let q : ℕ = p + count in
      let more : count ≡ q - p = omega arith in
      let front = front_bytes s 2 src p in
      let tiles = tiles_bytes s 2 src p (q - p) in
      let first = front_of_first (front ++ tiles) (tiles_bytes s 2 src q (pages_of s - q)) (length front + gained.part) in (
        first.0,
        ap (λ l. l ++ take gained.part gained.tiles) (done.same b t)
            ∙ ap (λ l. front ++ take gained.part l) (gained.same b t ∙ ap (λ m. tiles_bytes s 2 src p m) more)
            ∙ front_of_two front tiles gained.part ∙ first.1
            ∙ ap (take first.0) (ap (λ l. l ++ tiles_bytes s 2 src q (pages_of s - q)) (front_grown s 2 src p q (omega arith))
            ∙ sym (store_split s 2 src q h)),
      );
}

-- a piece that was not added, or a part of it that was
pub piece_part : (known known' : Option (List ℕ)) (s s' : Shape) (n : List ℕ) (f0 f1 f2 : Option Files) (p count first : ℕ) → p + count ≤ pages_of s
    → known' ≡ known → s' ≡ s → first ≡ p → HoldsPages known s n f0 f1 p → (f2 ≡ f1) ⊎ GainsFront known' s' first count n f1 f2
    → HoldsFront known s n f0 f2
piece_part known known' s s' n f0 f1 f2 p count first h et es ef done (inl same) = kept_pages known s n f0 f1 f2 p (omega arith) done same
piece_part known known' s s' n f0 f1 f2 p count first h et es ef done (inr part) =
    part_pages known s n f0 f1 f2 p count h done
    (subst (λ (m : ℕ). GainsFront known s m count n f1 f2) ef (subst (λ (z : Shape). GainsFront known z first count n f1 f2) es
    (subst (λ (t : Option (List ℕ)). GainsFront t s' first count n f1 f2) et part)))

pub piece_whole : (known known' : Option (List ℕ)) (s s' : Shape) (n : List ℕ) (f0 f1 f2 : Option Files) (p count first q : ℕ)
    → known' ≡ known → s' ≡ s → first ≡ p → HoldsPages known s n f0 f1 p → GainsTiles known' s' first count n f1 f2 → q ≡ p + count
    → HoldsPages known s n f0 f2 q
piece_whole known known' s s' n f0 f1 f2 p count first q et es ef done gained e =
    next_pages known s n f0 f1 f2 p count q done
    (subst (λ (m : ℕ). GainsTiles known s m count n f1 f2) ef (subst (λ (z : Shape). GainsTiles known z first count n f1 f2) es
    (subst (λ (t : Option (List ℕ)). GainsTiles t s' first count n f1 f2) et gained))) e

pub header_front : (known : Option (List ℕ)) (s g : Shape) (n : List ℕ) (f0 f1 : Option Files) → g ≡ s
    → (f1 ≡ f0) ⊎ ((k : ℕ) × (f1 ≡ option_map (with_bytes n (take k (header_bytes g 2))) f0)) → (f1 ≡ f0) ⊎ HoldsFront known s n f0 f1
unfolding store_bytes
header_front known s g n f0 f1 eg (inl same) = inl same
header_front known s g n f0 f1 eg (inr part) = inr (record {
  written = take part.0 (header_bytes s 2);
  held = part.1 ∙ ap (λ z. option_map (with_bytes n (take part.0 (header_bytes z 2))) f0) eg;
  part = λ b t. front_of_first (header_bytes s 2) (tiles_bytes s 2 (widened (stored b)) 0 (pages_of s)) part.0;
})

pub named : (n : List ℕ) → bytes_eq n n ≡ true
named n = (bytes_eq-Decides n n).1 refl

-- a name that holds bytes is there
pub there : (known : Option (List ℕ)) (s : Shape) (n : List ℕ) (f0 f1 : Option Files) (p : ℕ) → HoldsPages known s n f0 f1 p → IsThere f1 n
there known s n f0 f1 p done = subst (λ (f : Option Files). IsThere f n) (sym done.held) (held f0 done.written) where
  held : (f : Option Files) (w : List ℕ) → IsThere (option_map (with_bytes n w) f) n
  held None w = tt
  held (Some f) w = rw (named n) refl

-- one piece more was asked
pub next_asked : (s s' : Shape) (i first count : ℕ) (failed : Bool) (a0 a1 a2 : Option (List Place)) → PiecesAsked s 1 i a0 a1 → s' ≡ s
    → first ≡ i * piece_tiles s → count ≡ piece_count s i → TilesAsked s' 1 first count failed a1 a2
    → a2 ≡ option_map (λ places. places ++ (piece_places s 1 i ++ piece_place s 1 failed i ∷ [])) a0
next_asked s s' i first count failed a0 a1 a2 before es ef ec one =
    one ∙ ap (λ z. option_map (noted (tile_start z 1 first) (count * tile_length z 1) failed) a1) es
    ∙ ap (λ n. option_map (noted (tile_start s 1 n) (count * tile_length s 1) failed) a1) ef
    ∙ ap (λ n. option_map (noted (tile_start s 1 (i * piece_tiles s)) (n * tile_length s 1) failed) a1) ec
    ∙ ap (option_map (noted (tile_start s 1 (i * piece_tiles s)) (piece_count s i * tile_length s 1) failed)) before
    ∙ joined a0 where
      joined : (a : Option (List Place)) → option_map (noted (tile_start s 1 (i * piece_tiles s)) (piece_count s i * tile_length s 1) failed)
          (option_map (λ places. places ++ piece_places s 1 i) a)
          ≡ option_map (λ places. places ++ (piece_places s 1 i ++ piece_place s 1 failed i ∷ [])) a
      joined None = refl
      joined (Some places) = ap Some (append_assoc places (piece_places s 1 i) (piece_place s 1 failed i ∷ []))

pub more_asked : (s s' : Shape) (i first count : ℕ) (a0 a1 a2 : Option (List Place)) → PiecesAsked s 1 i a0 a1 → s' ≡ s
    → first ≡ i * piece_tiles s → count ≡ piece_count s i → TilesAsked s' 1 first count false a1 a2 → PiecesAsked s 1 (i + 1) a0 a2
more_asked s s' i first count a0 a1 a2 before es ef ec one =
    next_asked s s' i first count false a0 a1 a2 before es ef ec one
    ∙ ap (λ l. option_map (λ places. places ++ l) a0) (sym (map-range_with_len_more (piece_place s 1 false) 0 i i (omega arith)))

pub none_asked : (s : Shape) (a0 a1 : Option (List Place)) → a1 ≡ a0 → PiecesAsked s 1 0 a0 a1
none_asked s None a1 same = same
none_asked s (Some places) a1 same = same ∙ ap Some (sym (append-nil places))

pub front_asked : (s : Shape) (i : ℕ) (a0 a1 : Option (List Place)) → i ≤ pieces_of s → PiecesAsked s 1 i a0 a1 → FrontAsked s 1 a0 a1
front_asked s i a0 a1 few before = record { count = i; few = few; asked = inl before }

pub piece_tried : (s s' : Shape) (i first count : ℕ) (a0 a1 a2 : Option (List Place)) → i < pieces_of s → PiecesAsked s 1 i a0 a1 → s' ≡ s
    → first ≡ i * piece_tiles s → count ≡ piece_count s i
    → TilesAsked s' 1 first count false a1 a2 ⊎ TilesAsked s' 1 first count true a1 a2 → FrontAsked s 1 a0 a2
piece_tried s s' i first count a0 a1 a2 few before es ef ec (inl one) =
    front_asked s (i + 1) a0 a2 (omega arith) (more_asked s s' i first count a0 a1 a2 before es ef ec one)
piece_tried s s' i first count a0 a1 a2 few before es ef ec (inr one) = record {
  count = i;
  few = omega arith;
  asked = inr (few, next_asked s s' i first count true a0 a1 a2 before es ef ec one);
}

-- there are columns of tiles
pub some_columns : (s : Shape) → IsWithinLimits s → 1 ≤ columns_at s 0
unfolding columns_at
some_columns s limits = le-div 1 (s.width + s.tile - 1) s.tile (omega (arith, limits.least_tile)) (omega (arith, limits.least_width))

-- so many pages from one on are a piece, of so many pages in pieces of so many
pub record IsPieceOf (step pages i first count : ℕ) : Type 0 where
  pub below : i < (pages + step - 1) / step
  pub begins : first ≡ i * step
  pub counts : count ≡ min step (pages - i * step)
  pub inside : first + count ≤ pages
  pub here : min (i * step) pages ≡ first
  pub next : min ((i + 1) * step) pages ≡ first + count
  pub few : count ≤ step

piece_numbers : (step pages i first count : ℕ) → 1 ≤ step → i < (pages + step - 1) / step → first ≡ i * step
    → count ≡ min step (pages - first) → IsPieceOf step pages i first count
piece_numbers step pages i first count some below ef ec =
    let begins : i * step < pages = lt_up pages step i some below in
    let more : (i + 1) * step ≡ i * step + step = omega arith in
    record {
      below = below;
      begins = ef;
      counts = ec ∙ ap (λ n. min step (pages - n)) ef;
      inside = omega arith;
      here = omega arith;
      next = rw more (omega arith);
      few = omega arith;
    }

pub piece_is : (s g : Shape) (step pages i first count : ℕ) → g ≡ s → IsWithinLimits g → step ≡ columns_at g 0 → pages ≡ pages_of g
    → i < (pages + step - 1) / step → first ≡ i * step → count ≡ min step (pages - first)
    → IsPieceOf (piece_tiles s) (pages_of s) i first count
piece_is s g step pages i first count eg limits es ep below ef ec =
    let some : 1 ≤ step = rw es (some_columns g limits) in
    let steps : step ≡ piece_tiles s = es ∙ ap (λ z. columns_at z 0) eg in
    let whole : pages ≡ pages_of s = ep ∙ ap pages_of eg in
    subst (λ (n : ℕ). IsPieceOf (piece_tiles s) n i first count) whole
    (subst (λ (n : ℕ). IsPieceOf n pages i first count) steps (piece_numbers step pages i first count some below ef ec))

-- after all pieces all pages are done
all_pieces : (step pages : ℕ) → 1 ≤ step → min ((pages + step - 1) / step * step) pages ≡ pages
all_pieces step pages some = omega arith

pub all_done : (s g : Shape) (step pages i : ℕ) → g ≡ s → IsWithinLimits g → step ≡ columns_at g 0 → pages ≡ pages_of g
    → i ≡ (pages + step - 1) / step → (i ≡ pieces_of s) × (min (i * piece_tiles s) (pages_of s) ≡ pages_of s)
all_done s g step pages i eg limits es ep ei =
    let some : 1 ≤ step = rw es (some_columns g limits) in
    let steps : step ≡ piece_tiles s = es ∙ ap (λ z. columns_at z 0) eg in
    let whole : pages ≡ pages_of s = ep ∙ ap pages_of eg in
    let all : i ≡ pieces_of s = ei ∙ ap (λ n. (pages + n - 1) / n) steps ∙ ap (λ n. (n + piece_tiles s - 1) / piece_tiles s) whole in
    (all, ap (λ n. min (n * piece_tiles s) (pages_of s)) all ∙ all_pieces (piece_tiles s) (pages_of s) (omega (arith, some, steps)))

-- a count that did not fall in two calls did not fall in both
pub no_less : (a b c : ℕ) → a ≤ b → b ≤ c → a ≤ c
no_less a b c p q = omega arith

-- a count that rose in the last of some calls rose in all of them
pub rose_along : (a b c x y z : ℕ) → a ≤ b → x ≤ y → Rose b c ⊎ Rose y z → Rose a c ⊎ Rose x z
rose_along a b c x y z p q (inl h) = inl (omega arith)
rose_along a b c x y z p q (inr h) = inr (omega arith)

-- what refused a call refuses the calls that it is one of
pub carried : {T U : Type 0} (r : Result T StoreError) (q : Result U StoreError) (e f : StoreError) → r ≡ Err e
    → IsErrAnd q (λ x. x ≡ e) → IsErrOf q f → IsErrOf r f
carried r (Ok x) e f was is failed = let no : ⊥ = cc in absurd no
carried r (Err x) e f was is failed = cc

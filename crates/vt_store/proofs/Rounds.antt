-- How a round ends.
use Rattle.std.proofs.Common.{◌≡◌, ℕ, ◌-◌, ◌*◌, ◌<◌, ◌≤◌, inl, inr, Option, Some, List, [], ◌++◌, length, take, sym, ap, ◌∙◌, subst, arith, append_assoc, refl, Ok, Err}
use Rattle.std.proofs.lemmas.List.{append-nil}
use Rattle.std.proofs.lemmas.List.Concat.{flat_map-append}
use Rattle.std.proofs.lemmas.Nat.{mul-le}
use Rattle.std.proofs.Math.Seq.{take-length}
use Rattle.std.specs.Prelude.{option_map, OnOk, Result, Vec, vec_items}
use Rattle.std.specs.Result.{IsErrAnd}
use Rattle.std.specs.declared.alloc.Global.{Global}
use Rattle.vt_outside.specs.Counts.{Rose}
use Rattle.vt_outside.specs.Effects.{FolderState}
use Rattle.vt_outside.specs.Files.{Files, with_bytes}
use Rattle.vt_outside.specs.declared.answers.OutsideError.{OutsideError}
use Rattle.vt_outside.specs.declared.answers.OutsideError.TheVariants as outside_error
use Rattle.vt_outside.proofs.Changes.{front_of_first}
use Rattle.vt_ppm.specs.Format.{depth_of}
use Rattle.vt_ppm.specs.StripPlaces.{StripsTried}
use Rattle.vt_mip.specs.StripChains.{texture_texel}
use Rattle.vt_pages.specs.Shape.{Shape}
use Rattle.vt_pages.specs.Pages.{IsWithinLimits, columns_at, pages_of, rows_at}
use Rattle.vt_tiles.specs.Format.{tiles_bytes}
use Rattle.vt_tiles.specs.Made.{HoldsMade, HoldsMadeFront}
use Rattle.vt_tiles.specs.Refusals.{IsOutsideRefusal, refusal_by}
use Rattle.vt_tiles.specs.declared.error.StoreError.{StoreError}
use Rattle.vt_tiles.specs.declared.error.StoreError.TheVariants.{Failed}
use Rattle.vt_store.specs.Rounds.{AddsFirstStrips, AreRows, HoldsRows, HoldsRowsUpTo, MakesRows, Rows, RowsLost, RowsMade, StripsAdded, StripsRead, joined}
use Rattle.vt_store.specs.Steps.{AsksNoPlace}
use Rattle.vt_store.specs.StripStores.{strip_front}
use Rattle.vt_store.specs.StripSteps.{IsNextStrip, KeepsStrips, StripLost, StripsState, state_store}
use Rattle.vt_store.proofs.ReadStrips.{keeps_on, read_front, read_tried}
use Rattle.vt_store.proofs.StripLevels.{first_inside, first_pages}
use Rattle.vt_store.proofs.StripSteps.{between, seen}
use Rattle.vt_store.proofs.Writing.{front_bytes, front_grown, store_split}

-- the pages of the first strips are among all
front_inside : (s : Shape) (count : ℕ) → IsWithinLimits s → count ≤ rows_at s 0 → count * columns_at s 0 ≤ pages_of s
front_inside s count limits few =
    let some = mul-le count (columns_at s 0) (rows_at s 0) (columns_at s 0) few (omega arith) in
    omega (arith, some, first_pages s, first_inside s limits.some_level)

-- a strip's read failed
pub rows_lost : {E : Type 0} (s : Shape) (a : StripsState) (first : IsNextStrip s 0 a) (limits : IsWithinLimits s) (i : ℕ) (b c : StripsState) (rows seen : Rows)
    (q : Result ℕ E) (R : E → Type 0) → StripsRead s i a b → AreRows s i a rows → seen ≡ rows → i < rows_at s 0 → StripLost s i b c → KeepsStrips b c
    → IsErrAnd q R → MakesRows s a c seen q
rows_lost s a first limits i b c rows seen (Ok x) R was are same inside lost kept is = absurd is
rows_lost s a first limits i b c rows seen (Err x) R was are same inside lost kept is = record {
  count = i;
  few = was.few;
  tiles = λ bytes e. ap joined same ∙ are bytes e;
  tried = read_tried s a first limits i b was c inside (inr (inr lost.read));
  rose = (let risen : Rose b.faults c.faults = lost.rose in omega (arith, risen, was.kept.faults));
  kept = keeps_on a b c was.kept kept;
}

-- the file, the header and the tile side are as before
pub kept_made : {E : Type 0} (s : Shape) (a b : StripsState) (rows : Rows) (r : Result ℕ E) → MakesRows s a b rows r → KeepsStrips a b
kept_made s a b rows (Ok count) made = made.strips.kept
kept_made s a b rows (Err e) lost = lost.kept

-- what is so where a call was not refused
pub all_of : {T E : Type 0} {P : Type 0} (r : Result T E) (x : T) → r ≡ Ok x → OnOk r P → P
all_of {T} {E} {P} r x was all = subst (λ (q : Result T E). OnOk q P) was all

module _ (s : Shape) (n : List ℕ) (a : StripsState) (first : IsNextStrip s 0 a) (limits : IsWithinLimits s) where
  -- the store's header, and rows behind it
  front_of_rows : (count : ℕ) (rows : Rows) → AreRows s count a rows → (written b : List ℕ) → a.known ≡ Some b → written ≡ strip_front s a.header 0 b
      → written ++ joined rows ≡ strip_front s a.header (count * columns_at s 0) b
  front_of_rows count rows are written b e begun =
      let d = depth_of a.header.maximum in
      let src = texture_texel a.header b in
      let q : ℕ = count * columns_at s 0 in
      let eq : q ≡ q - 0 = omega arith in
      ap (λ (l : List ℕ). l ++ joined rows) begun
      ∙ ap (λ (l : List ℕ). strip_front s a.header 0 b ++ l) (are b e ∙ ap (tiles_bytes s d src 0) eq)
      ∙ front_grown s d src 0 q (omega arith)

  module _ (b : StripsState) (f g : FolderState) (asks : AsksNoPlace (between f g)) (sent none rows : Rows) (empty : none ≡ []) where
    -- nothing was added yet
    at_first : (before h : Option Files) (written : List ℕ) → h ≡ option_map (with_bytes n written) before
        → h ≡ option_map (with_bytes n (written ++ joined none)) before
    at_first before h written held =
        held ∙ ap (λ (l : List ℕ). option_map (with_bytes n l) before) (sym (ap (λ (l : Rows). written ++ joined l) empty ∙ append-nil written))

    -- all rows that were made were added
    pub round_added : (count : ℕ) → RowsMade s count a b sent → rows ≡ sent
        → HoldsRows n none rows (between f g) → StripsAdded s n count a b (between f g)
    round_added count made all adds = record {
      strips = made.strips;
      held = λ before begun. record {
        written = begun.written ++ joined rows;
        held = adds.each before begun.written (at_first before f.files begun.written begun.held);
        same = λ b e. ap (λ (l : Rows). begun.written ++ joined l) all ∙ front_of_rows count sent made.tiles begun.written b e (begun.same b e);
      };
      asks = asks;
    }

    -- a prefix of them is one of the store
    front_held : (count part : ℕ) (more : Rows) (h : Option Files) → count ≤ rows_at s 0 → AreRows s count a sent → rows ++ more ≡ sent
        → (before : Option Files) (begun : HoldsMade a.known (strip_front s a.header 0) n before f.files)
        → h ≡ option_map (with_bytes n (take part (begun.written ++ joined rows))) before → HoldsMadeFront a.known (state_store a) n before h
    front_held count part more h few are front before begun held = seen s n a first limits before h (record {
      written = take part (begun.written ++ joined rows);
      held = held;
      part = λ b e.
          let d = depth_of a.header.maximum in
          let src = texture_texel a.header b in
          let q : ℕ = count * columns_at s 0 in
          let rest : List ℕ = tiles_bytes s d src q (pages_of s - q) in
          let whole : (begun.written ++ joined rows) ++ (joined more ++ rest) ≡ front_bytes s d src q ++ rest =
          sym (append_assoc (begun.written ++ joined rows) (joined more) rest)
          ∙ ap (λ (l : List ℕ). l ++ rest) (append_assoc begun.written (joined rows) (joined more)
          ∙ ap (λ (l : List ℕ). begun.written ++ l) (sym (flat_map-append (λ (v : Vec ℕ Global). vec_items v) rows more) ∙ ap joined front)
          ∙ front_of_rows count sent are begun.written b e (begun.same b e)) in
          let prefix = front_of_first (begun.written ++ joined rows) (joined more ++ rest) part in
          (prefix.0, prefix.1 ∙ ap (take prefix.0) (whole ∙ sym (store_split s d src q (front_inside s count limits few))));
    })

    -- what is known of the rows that were made, where a read failed or not
    count_made : {E : Type 0} (r : Result ℕ E) → MakesRows s a b sent r → ℕ
    count_made (Ok count) made = count
    count_made (Err e) lost = lost.count

    few_made : {E : Type 0} (r : Result ℕ E) (made : MakesRows s a b sent r) → count_made r made ≤ rows_at s 0
    unfolding count_made
    few_made (Ok count) made = made.strips.few
    few_made (Err e) lost = lost.few

    are_made : {E : Type 0} (r : Result ℕ E) (made : MakesRows s a b sent r) → AreRows s (count_made r made) a sent
    unfolding count_made columns_at
    are_made (Ok count) made = made.tiles
    are_made (Err e) lost = lost.tiles

    tried_made : {E : Type 0} (r : Result ℕ E) → MakesRows s a b sent r → StripsTried a.header s.tile a.places b.places
    tried_made (Ok count) made = read_front s a first limits count b made.strips
    tried_made (Err e) lost = lost.tried

    -- a row was refused
    pub round_refused : {E : Type 0} (r : Result ℕ E) (more : Rows) (e : OutsideError) (q : Result ℕ StoreError) → MakesRows s a b sent r → rows ++ more ≡ sent
        → HoldsRowsUpTo n none rows (between f g) e → IsErrAnd q (λ x. x ≡ refusal_by e) → AddsFirstStrips s n a b (between f g) q
    round_refused r more e (Ok x) made front refused is = absurd is
    round_refused r more outside_error.Failed (Err x) made front refused is = record {
      part = λ before begun.
          let up = refused.each before begun.written (at_first before f.files begun.written begun.held) in
          front_held (count_made r made) up.part more g.files (few_made r made) (are_made r made) front before begun up.held;
      front_read = tried_made r made;
      failed = λ _ before begun. inl ((refused.each before begun.written (at_first before f.files begun.written begun.held)).rose refl);
      outside = subst IsOutsideRefusal (sym is) tt;
    }
    round_refused r more outside_error.NoMemory (Err x) made front refused is = record {
      part = λ before begun.
          let up = refused.each before begun.written (at_first before f.files begun.written begun.held) in
          front_held (count_made r made) up.part more g.files (few_made r made) (are_made r made) front before begun up.held;
      front_read = tried_made r made;
      failed = λ failed before begun. let no : ⊥ = cc in absurd no;
      outside = subst IsOutsideRefusal (sym is) tt;
    }

    -- a read failed, and the rows made before were added
    pub round_lost : (q : Result ℕ StoreError) → RowsLost s a b sent → rows ≡ sent
        → HoldsRows n none rows (between f g) → IsErrAnd q (λ x. x ≡ Failed) → AddsFirstStrips s n a b (between f g) q
    round_lost (Ok x) lost all adds is = absurd is
    round_lost (Err x) lost all adds is = record {
      part = λ before begun.
          let bytes : List ℕ = begun.written ++ joined rows in
          front_held lost.count (length bytes) [] g.files lost.few lost.tiles (append-nil rows ∙ all) before begun
          (adds.each before begun.written (at_first before f.files begun.written begun.held)
          ∙ ap (λ (l : List ℕ). option_map (with_bytes n l) before) (sym (take-length bytes)));
      front_read = lost.tried;
      failed = λ _ before begun. inr lost.rose;
      outside = subst IsOutsideRefusal (sym is) tt;
    }

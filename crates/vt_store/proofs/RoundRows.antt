-- Rows of tiles, and what a name holds of them.
use Rattle.std.proofs.Common.{◌≡◌, ℕ, ◌+◌, ◌-◌, ◌*◌, Some, List, [], ◌∷◌, ◌++◌, length, take, sym, ap, ◌∙◌, subst, arith, append_assoc, Ok, Err}
use Rattle.std.proofs.lemmas.List.{append-nil}
use Rattle.std.proofs.lemmas.List.Concat.{flat_map-append}
use Rattle.std.specs.Prelude.{option_map, Result, Vec, vec_items}
use Rattle.std.specs.Result.{IsErrAnd}
use Rattle.std.specs.declared.alloc.Global.{Global}
use Rattle.rtrb.specs.declared.consumer.Consumer.{Consumer}
use Rattle.rtrb.specs.declared.producer.Producer.{Producer}
use Rattle.rtrb.specs.Ring.{SameConsumer, SameProducer}
use Rattle.vt_outside.specs.Counts.{Rose}
use Rattle.vt_outside.specs.Effects.{FolderState}
use Rattle.vt_outside.specs.Files.{with_appended, with_bytes}
use Rattle.vt_outside.specs.declared.answers.OutsideError.{OutsideError}
use Rattle.vt_outside.proofs.Changes.{known-bytes-appended, front_of_two}
use Rattle.vt_ppm.specs.Format.{depth_of}
use Rattle.vt_mip.specs.StripChains.{texture_texel}
use Rattle.vt_pages.specs.Shape.{Shape}
use Rattle.vt_pages.specs.Pages.{columns_at}
use Rattle.vt_tiles.specs.Format.{tiles_bytes}
use Rattle.vt_store.specs.Rounds.{AddsRows, AreRows, HoldsRows, HoldsRowsUpTo, Rows, joined}
use Rattle.vt_store.specs.Steps.{AddsBytes, AsksNoPlace}
use Rattle.vt_store.specs.StripStores.{strip_tiles}
use Rattle.vt_store.specs.StripSteps.{StripsState}
use Rattle.vt_store.proofs.AddedPages.{there_bytes, tiles_split}
use Rattle.vt_store.proofs.StripSteps.{between}

-- the same end of a ring
pub ring_on : {T A P : Type 0} (a b c : Consumer T A P) → SameConsumer a b → SameConsumer b c → SameConsumer a c
ring_on a b c ((p0, p1, p2, p3), p4) ((q0, q1, q2, q3), q4) = ((q0 ∙ p0, q1 ∙ p1, q2 ∙ p2, q3 ∙ p3), q4 ∙ p4)

pub maker_on : {T A P : Type 0} (a b c : Producer T A P) → SameProducer a b → SameProducer b c → SameProducer a c
maker_on a b c ((p0, p1, p2, p3), p4) ((q0, q1, q2, q3), q4) = ((q0 ∙ p0, q1 ∙ p1, q2 ∙ p2, q3 ∙ p3), q4 ∙ p4)

-- one row more
pub joined_more : (rows : Rows) (row : Vec ℕ Global) → joined (rows ++ row ∷ []) ≡ joined rows ++ vec_items row
joined_more rows row =
    flat_map-append (λ (v : Vec ℕ Global). vec_items v) rows (row ∷ []) ∙ ap (λ (l : List ℕ). joined rows ++ l) (append-nil (vec_items row))

-- so a name holds it, where its bytes were added
pub row_added : {T : Type 0} (n : List ℕ) (rows rows' : Rows) (row : Vec ℕ Global) (f g : FolderState) (r : Result T OutsideError)
    → rows' ≡ rows ++ row ∷ [] → AddsBytes n (vec_items row) (between f g) r → AddsRows n rows rows' (between f g) r
row_added n rows rows' row f g (Ok x) grown added = record {
  each = λ before done e.
      added ∙ ap (option_map (with_appended n (vec_items row))) e ∙ known-bytes-appended n (done ++ joined rows) (vec_items row) before
      ∙ ap (λ (l : List ℕ). option_map (with_bytes n l) before) (append_assoc done (joined rows) (vec_items row)
      ∙ ap (λ (l : List ℕ). done ++ l) (sym (ap joined grown ∙ joined_more rows row)));
}
row_added n rows rows' row f g (Err x) grown adds = record {
  each = λ before done e. record {
    part = length (done ++ joined rows) + adds.part;
    held = adds.held ∙ ap (option_map (with_appended n (take adds.part (vec_items row)))) e
        ∙ known-bytes-appended n (done ++ joined rows) (take adds.part (vec_items row)) before
        ∙ ap (λ (l : List ℕ). option_map (with_bytes n l) before) (front_of_two (done ++ joined rows) (vec_items row) adds.part
        ∙ ap (take (length (done ++ joined rows) + adds.part)) (append_assoc done (joined rows) (vec_items row)
        ∙ ap (λ (l : List ℕ). done ++ l) (sym (ap joined grown ∙ joined_more rows row))));
    rose = λ is. adds.rose is (there_bytes n (done ++ joined rows) before f.files e);
  };
}

-- some rows, and then some more
pub rows_then : (n : List ℕ) (x y z : Rows) (f g h : FolderState) → HoldsRows n x y (between f g) → HoldsRows n y z (between g h)
    → HoldsRows n x z (between f h)
rows_then n x y z f g h first later = record { each = λ before done e. later.each before done (first.each before done e) }

pub rows_on : {T : Type 0} (n : List ℕ) (x y z : Rows) (f g h : FolderState) (r : Result T OutsideError) → AsksNoPlace (between f g)
    → HoldsRows n x y (between f g) → AddsRows n y z (between g h) r → AddsRows n x z (between f h) r
rows_on n x y z f g h (Ok v) asks first later = rows_then n x y z f g h first later
rows_on n x y z f g h (Err v) asks first later = record {
  each = λ before done e.
      let up = later.each before done (first.each before done e) in
      record {
        part = up.part;
        held = up.held;
        rose = λ is. (let risen : Rose g.faults h.faults = up.rose is in omega (arith, risen, asks.faults));
      };
}

-- what refused a row refuses the call
pub rows_refused : {T : Type 0} (n : List ℕ) (x y z : Rows) (f g h : FolderState) (q : Result T OutsideError) (e : OutsideError)
    → IsErrAnd q (λ v. v ≡ e) → AsksNoPlace (between f g) → HoldsRows n x y (between f g) → HoldsRowsUpTo n y z (between g h) e
    → AddsRows n x z (between f h) q
rows_refused n x y z f g h (Ok v) e is asks first later = absurd is
rows_refused n x y z f g h (Err v) e is asks first later =
    rows_on {T = Unit {0}} n x y z f g h (Err v) asks first (subst (λ (w : OutsideError). HoldsRowsUpTo n y z (between g h) w) (sym is) later)

-- none
pub rows_none : (s : Shape) (a : StripsState) (rows : Rows) → rows ≡ [] → AreRows s 0 a rows
unfolding tiles_bytes
rows_none s a rows none bytes is =
    let z : 0 ≡ 0 * columns_at s 0 = omega arith in
    ap joined none ∙ ap (tiles_bytes s (depth_of a.header.maximum) (texture_texel a.header bytes) 0) z

-- a strip's
pub rows_more : (s : Shape) (i : ℕ) (a : StripsState) (rows seen rows' : Rows) (row : Vec ℕ Global) (tiles : List ℕ) → AreRows s i a rows
    → ((bytes : List ℕ) → a.known ≡ Some bytes → tiles ≡ strip_tiles s a.header i bytes) → vec_items row ≡ tiles → seen ≡ rows
    → rows' ≡ seen ++ row ∷ [] → AreRows s (i + 1) a rows'
rows_more s i a rows seen rows' row tiles are made same looked grown bytes is =
    let d = depth_of a.header.maximum in
    let src = texture_texel a.header bytes in
    let p : ℕ = i * columns_at s 0 in
    let q : ℕ = (i + 1) * columns_at s 0 in
    let more : columns_at s 0 ≡ q - p = omega arith in
    let split : tiles_bytes s d src 0 (q - 0) ≡ tiles_bytes s d src 0 (p - 0) ++ tiles_bytes s d src p (q - p) =
    tiles_split s d src 0 p q (omega arith) (omega arith) in
    let ep : p ≡ p - 0 = omega arith in
    let eq : q - 0 ≡ q = omega arith in
    ap joined grown ∙ joined_more seen row ∙ ap (λ (l : Rows). joined l ++ vec_items row) looked ∙ ap (λ (l : List ℕ). joined rows ++ l) (same ∙ made bytes is ∙ ap (tiles_bytes s d src p) more)
    ∙ ap (λ (l : List ℕ). l ++ tiles_bytes s d src p (q - p)) (are bytes is ∙ ap (tiles_bytes s d src 0) ep)
    ∙ sym split ∙ ap (tiles_bytes s d src 0) eq

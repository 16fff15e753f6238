-- What a name holds while a store is written to it.
use Rattle.std.proofs.Common.{◌≡◌, ℕ, ◌+◌, ◌-◌, ◌≤◌, ◌⊎◌, inl, inr, Option, List, ◌++◌, length, take, refl, sym, ap, ◌∙◌, arith, append_assoc}
use Rattle.std.proofs.lemmas.List.{append-nil}
use Rattle.std.proofs.Math.Seq.{take-append_seam}
use Rattle.std.specs.Prelude.{option_map, flat_map}
use Rattle.std.specs.List.{range_with_len}
use Rattle.vt_outside.specs.Files.{Files, with_bytes, with_appended}
use Rattle.vt_outside.proofs.Changes.{known-bytes-appended, front_of_two, front_of_first}
use Rattle.vt_definitions.specs.Texels.{Source}
use Rattle.vt_pages.specs.Shape.{Shape}
use Rattle.vt_pages.specs.Pages.{pages_of}
use Rattle.vt_tiles.specs.Format.{header_bytes, tile_bytes, tiles_bytes, store_bytes}
use Rattle.vt_tiles.proofs.Spans.{span_add}

-- a store's bytes as far as the tiles of so many pages
abbrev pub front_bytes : Shape → ℕ → Source → ℕ → List ℕ
front_bytes s d src pages = header_bytes s d ++ tiles_bytes s d src 0 pages

-- a front of a store, and the tiles behind it
pub front_grown : (s : Shape) (d : ℕ) (src : Source) (p q : ℕ) → p ≤ q
    → front_bytes s d src p ++ tiles_bytes s d src p (q - p) ≡ front_bytes s d src q
unfolding tiles_bytes
front_grown s d src p q h =
    let e : p + (q - p) ≡ q = omega arith in
    let z : 0 + p ≡ p = omega arith in
    append_assoc (header_bytes s d) (flat_map (tile_bytes s d src) (range_with_len 0 p))
    (flat_map (tile_bytes s d src) (range_with_len p (q - p)))
    ∙ ap (λ l. header_bytes s d ++ l) (ap (λ i. flat_map (tile_bytes s d src) (range_with_len 0 p) ++ flat_map
    (tile_bytes s d src) (range_with_len i (q - p))) (sym z)
    ∙ sym (span_add (tile_bytes s d src) 0 p (q - p))
    ∙ ap (λ i. flat_map (tile_bytes s d src) (range_with_len 0 i)) e)

pub front_none : (s : Shape) (d : ℕ) (src : Source) → header_bytes s d ≡ front_bytes s d src 0
unfolding tiles_bytes
front_none s d src = sym (append-nil (header_bytes s d))

pub front_all : (s : Shape) (d : ℕ) (src : Source) → front_bytes s d src (pages_of s) ≡ store_bytes s d src
unfolding store_bytes
front_all s d src = refl

pub store_split : (s : Shape) (d : ℕ) (src : Source) (p : ℕ) → p ≤ pages_of s
    → store_bytes s d src ≡ front_bytes s d src p ++ tiles_bytes s d src p (pages_of s - p)
store_split s d src p h = sym (front_grown s d src p (pages_of s) h ∙ front_all s d src)

-- the name holds a front of the store
pub kept_part : (f0 f1 : Option Files) (n : List ℕ) (s : Shape) (d : ℕ) (src : Source) (p : ℕ) → p ≤ pages_of s
    → f1 ≡ option_map (with_bytes n (front_bytes s d src p)) f0 → (k : ℕ) × (f1 ≡ option_map (with_bytes n (take k (store_bytes s d src))) f0)
kept_part f0 f1 n s d src p h held = (
  length (front_bytes s d src p),
  held ∙ ap (λ l. option_map (with_bytes n l) f0)
      (sym (ap (take (length (front_bytes s d src p))) (store_split s d src p h)
      ∙ take-append_seam (front_bytes s d src p) (tiles_bytes s d src p (pages_of s - p)))),
)

-- a part of more bytes behind those that the name holds is a prefix of all
pub longer_part : (f0 f1 f2 : Option Files) (n whole done more rest : List ℕ) (k : ℕ) → whole ≡ (done ++ more) ++ rest
    → f1 ≡ option_map (with_bytes n done) f0 → f2 ≡ option_map (with_appended n (take k more)) f1
    → (j : ℕ) × (f2 ≡ option_map (with_bytes n (take j whole)) f0)
longer_part f0 f1 f2 n whole done more rest k split held added =
    let front = front_of_first (done ++ more) rest (length done + k) in (
      front.0,
      added ∙ ap (option_map (with_appended n (take k more))) held ∙ known-bytes-appended n done (take k more) f0
          ∙ ap (λ l. option_map (with_bytes n l) f0) (front_of_two done more k ∙ front.1 ∙ ap (take front.0) (sym split)),
    )

-- a prefix of the header is one of the store
pub header_of_store : (f0 f1 : Option Files) (n : List ℕ) (s : Shape) (e d : ℕ) (src : Source) → e ≡ d
    → (f1 ≡ f0) ⊎ ((k : ℕ) × (f1 ≡ option_map (with_bytes n (take k (header_bytes s e))) f0))
    → (f1 ≡ f0) ⊎ ((k : ℕ) × (f1 ≡ option_map (with_bytes n (take k (store_bytes s d src))) f0))
unfolding store_bytes
header_of_store f0 f1 n s e d src deep (inl same) = inl same
header_of_store f0 f1 n s e d src deep (inr part) =
    let front = front_of_first (header_bytes s d) (tiles_bytes s d src 0 (pages_of s)) part.0 in
    inr (
      front.0,
      part.1 ∙ ap (λ m. option_map (with_bytes n (take part.0 (header_bytes s m))) f0) deep
          ∙ ap (λ l. option_map (with_bytes n l) f0) front.1,
    )

-- so the name holds the front of a store without tiles
pub begun : (f0 f1 : Option Files) (n : List ℕ) (s : Shape) (e d : ℕ) (src : Source) → e ≡ d
    → f1 ≡ option_map (with_bytes n (header_bytes s e)) f0 → f1 ≡ option_map (with_bytes n (front_bytes s d src 0)) f0
begun f0 f1 n s e d src same held = held ∙ ap (λ m. option_map (with_bytes n (header_bytes s m)) f0) same
    ∙ ap (λ l. option_map (with_bytes n l) f0) (front_none s d src)

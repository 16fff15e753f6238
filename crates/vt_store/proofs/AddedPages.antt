-- What a name holds while the tiles of pages are added to it.
use Rattle.std.proofs.Common.{◌≡◌, ℕ, ◌+◌, ◌-◌, ◌≤◌, Option, Some, None, List, ◌++◌, length, take, refl, sym, ap, ◌∙◌, subst, arith, append_assoc}
use Rattle.std.proofs.lemmas.List.{append-nil}
use Rattle.std.specs.Prelude.{option_map, flat_map}
use Rattle.std.specs.List.{range_with_len}
use Rattle.vt_outside.specs.Files.{Files, IsThere, with_bytes, with_appended}
use Rattle.vt_outside.proofs.Changes.{known-bytes-appended, front_of_two, front_of_first}
use Rattle.vt_definitions.specs.Texels.{Source}
use Rattle.vt_mip.specs.Chains.{ChainView, chain_texel}
use Rattle.vt_pages.specs.Shape.{Shape}
use Rattle.vt_pages.specs.Pages.{pages_of}
use Rattle.vt_tiles.specs.Format.{header_bytes, tile_bytes, tiles_bytes, store_bytes}
use Rattle.vt_store.specs.ChainStores.{AddsPages, AddsPart, chain_store}
use Rattle.vt_tiles.proofs.Spans.{span_add}
use Rattle.vt_store.proofs.WideStores.{named}

-- tiles, and the ones behind them
pub tiles_split : (s : Shape) (d : ℕ) (src : Source) (a p q : ℕ) → a ≤ p → p ≤ q
    → tiles_bytes s d src a (q - a) ≡ tiles_bytes s d src a (p - a) ++ tiles_bytes s d src p (q - p)
unfolding tiles_bytes
tiles_split s d src a p q h k =
    let e : q - a ≡ p - a + (q - p) = omega arith in
    let z : a + (p - a) ≡ p = omega arith in
    ap (λ n. flat_map (tile_bytes s d src) (range_with_len a n)) e
    ∙ span_add (tile_bytes s d src) a (p - a) (q - p)
    ∙ ap (λ n. flat_map (tile_bytes s d src) (range_with_len a (p - a)) ++ flat_map (tile_bytes s d src) (range_with_len n (q - p))) z

none_added : (s : Shape) (d : ℕ) (src : Source) (a : ℕ) (done : List ℕ) → done ++ tiles_bytes s d src a (a - a) ≡ done
unfolding tiles_bytes
none_added s d src a done =
    let e : a - a ≡ 0 = omega arith in
    ap (λ n. done ++ flat_map (tile_bytes s d src) (range_with_len a n)) e ∙ append-nil done

pub adds_none : (s : Shape) (d : ℕ) (src : Source) (a : ℕ) (name : List ℕ) (f : Option Files) → AddsPages s d src a a name f f
adds_none s d src a name f = record {
  held = λ before done e. e ∙ ap (λ l. option_map (with_bytes name l) before) (sym (none_added s d src a done));
}

-- a row of tiles more
pub adds_more : (s : Shape) (d : ℕ) (src : Source) (a p q : ℕ) (name tiles : List ℕ) (f0 f1 f2 : Option Files) → a ≤ p → p ≤ q
    → AddsPages s d src a p name f0 f1 → tiles ≡ tiles_bytes s d src p (q - p) → f2 ≡ option_map (with_appended name tiles) f1
    → AddsPages s d src a q name f0 f2
adds_more s d src a p q name tiles f0 f1 f2 h k adds are added = record {
  held = λ before done e.
      added ∙ ap (option_map (with_appended name tiles)) (adds.held before done e)
      ∙ known-bytes-appended name (done ++ tiles_bytes s d src a (p - a)) tiles before
      ∙ ap (λ l. option_map (with_bytes name l) before)
      (ap (λ l. (done ++ tiles_bytes s d src a (p - a)) ++ l) are
      ∙ append_assoc done (tiles_bytes s d src a (p - a)) (tiles_bytes s d src p (q - p))
      ∙ ap (λ l. done ++ l) (sym (tiles_split s d src a p q h k)));
}

-- and a part of one
pub adds_part : (s : Shape) (d : ℕ) (src : Source) (a p q : ℕ) (name tiles : List ℕ) (f0 f1 f2 : Option Files) → a ≤ p → p ≤ q → q ≤ pages_of s
    → AddsPages s d src a p name f0 f1 → tiles ≡ tiles_bytes s d src p (q - p)
    → (k : ℕ) × (f2 ≡ option_map (with_appended name (take k tiles)) f1) → AddsPart s d src a name f0 f2
adds_part s d src a p q name tiles f0 f1 f2 h k inside adds are added =
    let one : List ℕ = tiles_bytes s d src a (p - a) in
    let two : List ℕ = tiles_bytes s d src p (q - p) in
    let rest : List ℕ = tiles_bytes s d src q (pages_of s - q) in
    let front = front_of_first (one ++ two) rest (length one + added.0) in
    let whole : tiles_bytes s d src a (pages_of s - a) ≡ (one ++ two) ++ rest =
    tiles_split s d src a q (pages_of s) (omega arith) inside ∙ ap (λ l. l ++ rest) (tiles_split s d src a p q h k) in
    record {
      part = front.0;
      held = λ before done e.
          added.1 ∙ ap (λ l. option_map (with_appended name (take added.0 l)) f1) are
          ∙ ap (option_map (with_appended name (take added.0 two))) (adds.held before done e)
          ∙ known-bytes-appended name (done ++ one) (take added.0 two) before
          ∙ ap (λ l. option_map (with_bytes name l) before)
          (append_assoc done one (take added.0 two)
          ∙ ap (λ l. done ++ l) (front_of_two one two added.0 ∙ front.1 ∙ ap (take front.0) (sym whole)));
    }

-- the name is there where it holds bytes
pub there_bytes : (name done : List ℕ) (before after : Option Files) → after ≡ option_map (with_bytes name done) before → IsThere after name
there_bytes name done before after e = subst (λ (f : Option Files). IsThere f name) (sym e) (held before) where
  held : (f : Option Files) → IsThere (option_map (with_bytes name done) f) name
  held None = tt
  held (Some f) = rw (named name) refl

-- the tiles of all pages behind the header
pub whole_store : (c : ChainView) (s : Shape) (d : ℕ) (name : List ℕ) (f0 f1 f2 : Option Files) → d ≡ c.base.depth
    → f1 ≡ option_map (with_bytes name (header_bytes s d)) f0 → AddsPages s c.base.depth (chain_texel c) 0 (pages_of s) name f1 f2
    → f2 ≡ option_map (with_bytes name (chain_store c s)) f0
unfolding store_bytes
whole_store c s d name f0 f1 f2 deep begun adds =
    let e : pages_of s - 0 ≡ pages_of s = omega arith in
    adds.held f0 (header_bytes s d) begun
    ∙ ap (λ (n : ℕ). option_map (with_bytes name (header_bytes s n ++ tiles_bytes s c.base.depth (chain_texel c) 0 (pages_of s - 0))) f0) deep
    ∙ ap (λ (n : ℕ). option_map (with_bytes name (header_bytes s c.base.depth ++ tiles_bytes s c.base.depth (chain_texel c) 0 n)) f0) e

pub part_store : (c : ChainView) (s : Shape) (d : ℕ) (name : List ℕ) (f0 f1 f2 : Option Files) → d ≡ c.base.depth
    → f1 ≡ option_map (with_bytes name (header_bytes s d)) f0 → AddsPart s c.base.depth (chain_texel c) 0 name f1 f2
    → (k : ℕ) × (f2 ≡ option_map (with_bytes name (take k (chain_store c s))) f0)
unfolding store_bytes
part_store c s d name f0 f1 f2 deep begun adds =
    let e : pages_of s - 0 ≡ pages_of s = omega arith in
    let head : List ℕ = header_bytes s c.base.depth in (
      length head + adds.part,
      adds.held f0 (header_bytes s d) begun
          ∙ ap (λ (n : ℕ). option_map (with_bytes name (header_bytes s n ++ take adds.part (tiles_bytes s c.base.depth (chain_texel c) 0
          (pages_of s - 0)))) f0) deep
          ∙ ap (λ (n : ℕ). option_map (with_bytes name (head ++ take adds.part (tiles_bytes s c.base.depth (chain_texel c) 0 n))) f0) e
          ∙ ap (λ l. option_map (with_bytes name l) f0) (front_of_two head (tiles_bytes s c.base.depth (chain_texel c) 0 (pages_of s)) adds.part),
    )

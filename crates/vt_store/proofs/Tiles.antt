-- Where the tiles of pages lie in their levels, and their lines.
use Rattle.std.proofs.Common.{◌≡◌, ℕ, zero, suc, ◌+◌, ◌-◌, ◌*◌, ◌/◌, ◌%◌, ◌<◌, ◌≤◌, ◌⊎◌, inl, inr, List, length, min, refl, sym, ap, ◌∙◌, subst, arith}
use Rattle.std.proofs.lemmas.Nat.{mod-mul-add, div-mul-add, mul-le, div-add-mod', div_below, mod_below, le-div}
use Rattle.std.proofs.Math.Nat.{div-mul-le_self}
use Rattle.vt_definitions.specs.Depths.{IsDepth, texel_length, word_bytes}
use Rattle.vt_definitions.specs.Sides.{side}
use Rattle.vt_definitions.specs.Texels.{Source}
use Rattle.vt_mip.specs.Chains.{ChainView, chain_levels}
use Rattle.vt_pages.specs.declared.PageName.{PageName}
use Rattle.vt_pages.specs.Shape.{Shape}
use Rattle.vt_pages.specs.Pages.{IsPage, IsWithinLimits, levels_of, columns_at, pages_of, index_at, index_of, name_at, clamped_word}
use Rattle.vt_pages.proofs.Counts.{lt_up, side_most}
use Rattle.vt_pages.proofs.Names.{index_at_below, name_at-index}
use Rattle.vt_tiles.specs.Format.{tile_area, tiles_bytes, tile_length}
use Rattle.vt_store.specs.ChainStores.{HasShape}
use Rattle.vt_tiles.specs.TileLines.{HasLines, GainsLine, piece_at, tile_piece, tile_word}
use Rattle.vt_tiles.proofs.Pieces.{piece_end, same_pieces}
use Rattle.vt_tiles.proofs.Tiles.{tiles_bytes_length, tiles_piece}

pub columns_are : (s : Shape) (k w t : ℕ) → w ≡ side s.width k → t ≡ s.tile → (w + t - 1) / t ≡ columns_at s k
unfolding columns_at
columns_are s k w t ew et = rw (ew, et) refl

-- no level has more columns of pages than the first
pub columns_fall : (s : Shape) (k : ℕ) → IsWithinLimits s → columns_at s k ≤ columns_at s 0
unfolding columns_at
columns_fall s k limits =
    let wide : side s.width k ≤ s.width = side_most s.width s.width k limits.least_width (omega arith) in
    le-div ((side s.width k + s.tile - 1) / s.tile) (s.width + s.tile - 1) s.tile (omega (arith, limits.least_tile))
    (omega (arith, div-mul-le_self (side s.width k + s.tile - 1) s.tile))

-- the pages from one to the end of its row of tiles are pages of the chain
pub row_inside : (s : Shape) (n : PageName) → IsPage s n → index_of s n + (columns_at s n.level - n.col) ≤ pages_of s
unfolding index_at
row_inside s n is =
    let last : index_at s n.level (columns_at s n.level - 1) n.row < pages_of s =
    index_at_below s n.level (columns_at s n.level - 1) n.row is.level_inside (omega (arith, is.col_inside)) is.row_inside in
    omega (arith, last, is.col_inside)

-- tiles that have all their lines are those of their pages
pub tiles_are : (s : Shape) (d : ℕ) (src : Source) (first count : ℕ) (tiles : List ℕ) → IsDepth d → 1 ≤ s.tile
    → length tiles ≡ count * tile_length s d → HasLines s d src first count s.tile tiles → tiles ≡ tiles_bytes s d src first count
tiles_are s d src first count tiles depth some full lines =
    same_pieces (texel_length d) (count * tile_area s) tiles (tiles_bytes s d src first count) (longer d depth)
    (turned (length tiles) full) (turned (length (tiles_bytes s d src first count)) (tiles_bytes_length s d src first count depth))
    (λ m below. each m below) where
      longer : (d : ℕ) → IsDepth d → 1 ≤ texel_length d
      longer d (inl one) = omega arith
      longer d (inr two) = omega arith

      turned : (n : ℕ) → n ≡ count * tile_length s d → n ≡ texel_length d * (count * tile_area s)
      turned n e = omega (arith, e)

      area : 1 ≤ tile_area s
      area = omega (arith, mul-le 1 1 s.tile s.tile some some)

      each : (m : ℕ) → m < count * tile_area s
          → piece_at (texel_length d) tiles m ≡ piece_at (texel_length d) (tiles_bytes s d src first count) m
      each m below =
          let t = m / tile_area s in
          let i = m % tile_area s in
          let split : m ≡ t * tile_area s + i = omega (arith, div-add-mod' m (tile_area s)) in
          let tile : t < count = div_below m (tile_area s) count area below in
          let texel : i < tile_area s = mod_below m (tile_area s) area in
          ap (piece_at (texel_length d) tiles) split
          ∙ lines.each t i tile texel
          ∙ sym (tiles_piece s d src first count t i depth tile texel)
          ∙ ap (piece_at (texel_length d) (tiles_bytes s d src first count)) (sym split)

-- the names of the pages of a row of tiles
pub name_along : (s : Shape) (first t : ℕ) (name : PageName) → IsPage s name → index_of s name ≡ first
    → name.col + t < columns_at s name.level → name_at s (first + t) ≡ record { level = name.level; col = name.col + t; row = name.row }
unfolding index_at
name_along s first t name is e below =
    let along : first + t ≡ index_at s name.level (name.col + t) name.row = omega (arith, e) in
    ap (name_at s) along ∙ name_at-index s name.level (name.col + t) name.row is.level_inside below is.row_inside

-- one line more
pub next_line : (s : Shape) (d : ℕ) (src : Source) (first count line y w h t' z : ℕ) (name : PageName) (row before after : List ℕ)
    → t' ≡ s.tile → z ≡ texel_length d → w ≡ side s.width name.level → h ≡ side s.height name.level → 1 ≤ w → y ≡ min (name.row * t' + line) (h - 1)
    → IsPage s name → index_of s name ≡ first → name.col + count ≤ columns_at s name.level
    → ((x : ℕ) → x < w → piece_at (texel_length d) row x ≡ word_bytes d (src name.level x y))
    → GainsLine z row w t' name.col line count count before after → HasLines s d src first count line before
    → HasLines s d src first count (line + 1) after
next_line s d src first count line y w h' t' z name row before after et ez ew eh some ey is e inside texels gained lines = record {
  each = λ t i p q. each t i p q (grind arith);
} where
  same : GainsLine (texel_length d) row w s.tile name.col line count count before after
  same = (let P : ℕ → ℕ → Type 0 = λ m n. GainsLine m row w n name.col line count count before after in
      subst (λ (m : ℕ). P m s.tile) ez (subst (P z) et gained))

  each : (t i : ℕ) → t < count → i < (line + 1) * s.tile → (i < line * s.tile) ⊎ (line * s.tile ≤ i)
      → tile_piece (texel_length d) s.tile after t i ≡ word_bytes d (tile_word s src (first + t) i)
  each t i p q (inl h) = same.kept t i p h ∙ lines.each t i p h
  each t i p q (inr h) =
      let x = i - line * s.tile in
      let short : x < s.tile = omega arith in
      let place : i ≡ line * s.tile + x = omega arith in
      let across : i % s.tile ≡ x = ap (λ n. n % s.tile) place ∙ mod-mul-add line s.tile x short in
      let down : i / s.tile ≡ line = ap (λ n. n / s.tile) place ∙ div-mul-add line s.tile x short in
      ap (λ n. tile_piece (texel_length d) s.tile after t n) place
      ∙ same.here t x p short
      ∙ texels (min ((name.col + t) * s.tile + x) (w - 1)) (omega arith)
      ∙ ap (λ n. word_bytes d (src name.level (min ((name.col + t) * s.tile + x) (n - 1)) y)) ew
      ∙ ap (λ n. word_bytes d (src name.level (min ((name.col + t) * s.tile + x) (side s.width name.level - 1)) n))
      (ey ∙ ap (λ n. min (name.row * n + line) (h' - 1)) et ∙ ap (λ n. min (name.row * s.tile + line) (n - 1)) eh)
      ∙ ap (λ n. word_bytes d (clamped_word s src name.level ((name.col + t) * s.tile + n) (name.row * s.tile + line))) (sym across)
      ∙ ap (λ n. word_bytes d (clamped_word s src name.level ((name.col + t) * s.tile + i % s.tile) (name.row * s.tile + n))) (sym down)
      ∙ ap (λ (n : PageName). word_bytes d (clamped_word s src n.level (n.col * s.tile + i % s.tile) (n.row * s.tile + i / s.tile)))
      (sym (name_along s first t name is e (omega arith)))

-- a level of the pages is one of the chain
pub level_inside : (c : ChainView) (s : Shape) (k : ℕ) → HasShape c s → k < levels_of s → k < chain_levels c
unfolding levels_of
level_inside c s k is h = let P : Shape → Type 0 = λ z. k < levels_of z in subst P (sym is.same) h

-- where a column of pages begins
pub column_small : (s : Shape) (k c t : ℕ) → IsWithinLimits s → c < columns_at s k → t ≡ s.tile → c * t < 16384
unfolding columns_at
column_small s k c t limits h e =
    let here : c * s.tile < side s.width k = lt_up (side s.width k) s.tile c (omega (arith, limits.least_tile)) h in
    let most : side s.width k ≤ 16384 = side_most s.width 16384 k (omega arith) limits.most_width in
    rw e (omega arith)

-- and where so many end
pub columns_small : (s : Shape) (k n t : ℕ) → IsWithinLimits s → n ≤ columns_at s k → t ≡ s.tile → n * t ≤ 32768
columns_small s k zero t limits h e = omega arith
columns_small s k (suc n) t limits h e = omega (arith, column_small s k n t limits h e, limits.most_tile)

-- it begins inside a row of texels
pub column_begins : (s : Shape) (k c t n w z : ℕ) → IsWithinLimits s → c < columns_at s k → t ≡ s.tile → w ≡ side s.width k → n ≡ z * w
    → z * (c * t) + z ≤ n
unfolding columns_at
column_begins s k c t n w z limits h e wide full =
    let here : c * s.tile < side s.width k = lt_up (side s.width k) s.tile c (omega (arith, limits.least_tile)) h in
    rw (e, full, wide) (piece_end z (c * s.tile) (side s.width k) here)

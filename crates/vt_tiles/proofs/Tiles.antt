-- The tiles of pages as bytes.
use Rattle.std.proofs.Common.{◌≡◌, ℕ, ◌+◌, ◌*◌, ◌/◌, ◌%◌, ◌<◌, ◌≤◌, length, ap, ◌∙◌, arith}
use Rattle.std.proofs.lemmas.List.FromFn.{get_or-map-range_with_len, length-map-range_with_len}
use Rattle.std.specs.Prelude.{slice_index}
use Rattle.vt_pages.specs.Depths.{IsDepth, texel_length, word_bytes}
use Rattle.vt_pages.specs.Limits.{most_tiled_side}
use Rattle.vt_pages.specs.Sides.{side}
use Rattle.vt_pages.specs.Texels.{Source}
use Rattle.vt_pages.specs.Shape.{Shape}
use Rattle.vt_pages.specs.Pages.{IsWithinLimits, rows_at, name_at, clamped_word, tile_words}
use Rattle.vt_pages.proofs.Counts.{lt_up, side_most}
use Rattle.vt_tiles.specs.Format.{tile_area, tile_bytes, tiles_bytes, tile_length}
use Rattle.vt_tiles.specs.TileLines.{piece_at, tile_word}
use Rattle.vt_tiles.proofs.Pieces.{bytes_same, place_in, words_length, words_piece}
use Rattle.vt_tiles.proofs.Spans.{span_length, span_at}

-- the words of a tile, by their places
pub tile_word_is : (s : Shape) (src : Source) (p i : ℕ) → i < tile_area s → slice_index (tile_words s src p) i ≡ tile_word s src p i
unfolding tile_words
tile_word_is s src p i inside =
    let f : ℕ → ℕ = λ i. clamped_word s src (name_at s p).level ((name_at s p).col * s.tile + i % s.tile) ((name_at s p).row * s.tile + i / s.tile) in
    get_or-map-range_with_len f 0 (tile_area s) i i 0 inside (omega arith)

words_are_many : (s : Shape) (src : Source) (p : ℕ) → length (tile_words s src p) ≡ tile_area s
unfolding tile_words
words_are_many s src p =
    length-map-range_with_len (λ i. clamped_word s src (name_at s p).level ((name_at s p).col * s.tile + i % s.tile)
    ((name_at s p).row * s.tile + i / s.tile)) 0 (tile_area s)

pub length-tile : (s : Shape) (d : ℕ) (src : Source) (p : ℕ) → IsDepth d → length (tile_bytes s d src p) ≡ tile_length s d
unfolding tile_bytes
length-tile s d src p depth =
    let many : texel_length d * length (tile_words s src p) ≡ texel_length d * tile_area s = ap (λ n. texel_length d * n) (words_are_many s src p) in
    omega (arith, words_length d (tile_words s src p) depth, many)

-- the texels of a page's tile
pub tile_texel : (s : Shape) (d : ℕ) (src : Source) (p i : ℕ) → IsDepth d → i < tile_area s
    → piece_at (texel_length d) (tile_bytes s d src p) i ≡ word_bytes d (tile_word s src p i)
unfolding tile_bytes
tile_texel s d src p i depth inside =
    words_piece d (tile_words s src p) i depth (omega (arith, words_are_many s src p)) ∙ ap (word_bytes d) (tile_word_is s src p i inside)

pub tiles_bytes_length : (s : Shape) (d : ℕ) (src : Source) (first count : ℕ) → IsDepth d
    → length (tiles_bytes s d src first count) ≡ count * tile_length s d
unfolding tiles_bytes
tiles_bytes_length s d src first count depth =
    span_length (tile_bytes s d src) first count (tile_length s d) (λ p. length-tile s d src p depth)

-- a texel of a tile among others that lie side by side
pub tiles_piece : (s : Shape) (d : ℕ) (src : Source) (first count t i : ℕ) → IsDepth d → t < count → i < tile_area s
    → piece_at (texel_length d) (tiles_bytes s d src first count) (t * tile_area s + i) ≡ word_bytes d (tile_word s src (first + t) i)
unfolding tiles_bytes
tiles_piece s d src first count t i depth p q =
    let z = texel_length d in
    bytes_same (tiles_bytes s d src first count) (tile_bytes s d src (first + t)) (z * (t * tile_area s + i)) (z * i) z
    (λ c h. ap (slice_index (tiles_bytes s d src first count))
    (let e : z * (t * tile_area s + i) + c ≡ t * tile_length s d + (z * i + c) = omega arith in e)
    ∙ span_at (tile_bytes s d src) first count (tile_length s d) t (z * i + c) 0 (λ n. length-tile s d src n depth) p
    (let e : z * i + c < 1 * (tile_area s * z) = place_in z 1 (tile_area s) i c (omega arith) h in omega arith))
    ∙ tile_texel s d src (first + t) i depth q

-- and a row of pages
pub row_small : (s : Shape) (k r t : ℕ) → IsWithinLimits s → r < rows_at s k → t ≡ s.tile → r * t < most_tiled_side
unfolding rows_at
row_small s k r t limits h e =
    let here : r * s.tile < side s.height k = lt_up (side s.height k) s.tile r (omega (arith, limits.least_tile)) h in
    let most : side s.height k ≤ most_tiled_side = side_most s.height most_tiled_side k (omega arith) limits.most_height in
    rw e (omega arith)

-- Tiles of two-byte samples from those of one-byte samples.
use Rattle.std.proofs.Common.{◌≡◌, ℕ, ◌+◌, ◌-◌, ◌*◌, ◌/◌, ◌%◌, ◌<◌, ◌≤◌, ◌⊎◌, inl, inr, refl, List, length, get_or, take, drop, min, sym, ap, ◌∙◌, arith}
use Rattle.std.specs.Prelude.{slice_index}
use Rattle.std.proofs.lemmas.List.{get_or_default, length-drop, length-take-le}
use Rattle.std.proofs.lemmas.Nat.{div-add-mod', div_below, mod_below, div-mul-add, mod-mul-add, mul-add-lt}
use borrow.Rule.Slice.PartMut.{put_mid}
use Rattle.vt_definitions.specs.Depths.{AreBytes, word_bytes, word_at, red_of, green_of, blue_of, texel_length}
use Rattle.vt_definitions.specs.Sides.{side}
use Rattle.vt_definitions.proofs.Words.{six, wide_bytes}
use Rattle.vt_definitions.proofs.TexelWords.{texel_words}
use Rattle.vt_outside.specs.Files.{IsPiece}
use Rattle.vt_pages.specs.declared.PageName.{PageName}
use Rattle.vt_pages.specs.Shape.{Shape}
use Rattle.vt_pages.specs.Pages.{IsPage, IsWithinLimits, columns_at, rows_at, pages_of, index_of, name_at, texel_page}
use Rattle.vt_pages.proofs.Counts.{lt_up}
use Rattle.vt_pages.proofs.Names.{are_inverse}
use Rattle.vt_tiles.specs.Format.{header_length, tile_area, tile_length, tile_start, texel_number, stored}
use Rattle.vt_tiles.specs.StoreViews.{IsStore}
use Rattle.vt_tiles.specs.TileLines.{IsSpan, HasLines, piece_at, tile_piece, tile_word, columns_inside, rows_inside}
use Rattle.vt_store.specs.Widening.{IsWideLine, HasWideLines, doubled, widened_word, widened}
use Rattle.vt_tiles.proofs.Lines.{up_to}
use Rattle.vt_store.proofs.Lines.{tile_room}
use Rattle.vt_tiles.proofs.Pieces.{bytes_moved, bytes_of_take, bytes_of_drop, piece_end, piece_kept, piece_written, word_same}
use Rattle.vt_tiles.proofs.Stored.{texel_of_piece}

moved : (xs : List ℕ) (i k : ℕ) → i ≡ k → slice_index xs i ≡ slice_index xs k
moved xs i k e = ap (slice_index xs) e

-- the texel of doubled bytes
piece_doubled : (out line : List ℕ) (n x : ℕ) → x < n → length line ≡ 3 * n
    → ((i : ℕ) → i < length line → slice_index out (2 * i) ≡ slice_index line i)
    → ((i : ℕ) → i < length line → slice_index out (2 * i + 1) ≡ slice_index line i)
    → piece_at 6 out x ≡ doubled (piece_at 3 line x)
piece_doubled out line n x inside full first second =
    six _ _ _ _ _ _ _ _ _ _ _ _
    (moved out (6 * x) (2 * (3 * x)) (omega arith) ∙ first (3 * x) (omega arith))
    (moved out (6 * x + 1) (2 * (3 * x) + 1) (omega arith) ∙ second (3 * x) (omega arith))
    (moved out (6 * x + 1 + 1) (2 * (3 * x + 1)) (omega arith) ∙ first (3 * x + 1) (omega arith))
    (moved out (6 * x + 1 + 1 + 1) (2 * (3 * x + 1) + 1) (omega arith) ∙ second (3 * x + 1) (omega arith))
    (moved out (6 * x + 1 + 1 + 1 + 1) (2 * (3 * x + 1 + 1)) (omega arith) ∙ first (3 * x + 1 + 1) (omega arith))
    (moved out (6 * x + 1 + 1 + 1 + 1 + 1) (2 * (3 * x + 1 + 1) + 1) (omega arith) ∙ second (3 * x + 1 + 1) (omega arith))

pub wide_line : (texels line out : List ℕ) (columns count : ℕ) → length line ≡ 3 * count → IsSpan 3 texels columns 0 count line
    → ((i : ℕ) → i < length line → slice_index out (2 * i) ≡ slice_index line i)
    → ((i : ℕ) → i < length line → slice_index out (2 * i + 1) ≡ slice_index line i) → IsWideLine texels columns count out
wide_line texels line out columns count full span first second = record {
  each = λ x p. piece_doubled out line count x p full first second ∙ ap doubled (span.each x p)
      ∙ ap (λ n. doubled (piece_at 3 texels (min n (columns - 1)))) (let e : 0 + x ≡ x = omega arith in e);
}

-- a texel of a slice of texels
pub piece_of_slice : (z : ℕ) (xs : List ℕ) (first m a i : ℕ) → a ≡ z * first → z * i + z ≤ m
    → piece_at z (take m (drop a xs)) i ≡ piece_at z xs (first + i)
piece_of_slice z xs first m a i at room =
    bytes_of_take (drop a xs) m (z * i) z room ∙ bytes_of_drop xs a (z * i) z
    ∙ bytes_moved xs (a + z * i) (z * (first + i)) z (omega (arith, at))

-- one line of a tile more
pub next_wide_line : (tile texels old new : List ℕ) (side columns rows line from m at k : ℕ) → line < side → at ≡ 6 * (line * side) → k ≡ 6 * side
    → at ≤ length old → length new ≡ k → 1 ≤ columns → from ≡ min line (rows - 1) → m ≡ 3 * columns
    → texels ≡ take m (drop (3 * (from * side)) tile) → IsWideLine texels columns side new
    → HasWideLines tile side columns rows line old → HasWideLines tile side columns rows (line + 1) (put_mid at k old new)
next_wide_line tile texels old new side columns rows line from m at k below e size room whole some row long cut wide has = record {
  each = λ l x p q. each l x q (up_to l line p);
} where
  each : (l x : ℕ) → x < side → (l < line) ⊎ (l ≡ line)
      → piece_at 6 (put_mid at k old new) (l * side + x) ≡ doubled (piece_at 3 tile (min l (rows - 1) * side + min x (columns - 1)))
  each l x q (inl h) =
      piece_kept 6 old new (line * side) side (l * side + x) at k e size room whole (inl (omega (arith, tile_room l line side h)))
      ∙ has.each l x h q
  each l x q (inr h) =
      ap (λ n. piece_at 6 (put_mid at k old new) (n * side + x)) h
      ∙ piece_written 6 old new (line * side) side x at k e size room whole q
      ∙ wide.each x q
      ∙ ap (λ b. doubled (piece_at 3 b (min x (columns - 1)))) cut
      ∙ ap doubled (piece_of_slice 3 tile (from * side) m (3 * (from * side)) (min x (columns - 1)) refl (omega (arith, long)))
      ∙ ap (λ n. doubled (piece_at 3 tile (n * side + min x (columns - 1)))) row
      ∙ ap (λ n. doubled (piece_at 3 tile (min n (rows - 1) * side + min x (columns - 1)))) (sym h)

-- the bytes of a word twice are those of the widened word
doubled_word : (w : ℕ) → doubled (word_bytes 1 w) ≡ word_bytes 2 (widened_word w)
doubled_word w =
    six _ _ _ _ _ _ (red_of 1 w) (red_of 1 w) (green_of 1 w) (green_of 1 w) (blue_of 1 w) (blue_of 1 w)
    (omega arith) (omega arith) (omega arith) (omega arith) (omega arith) (omega arith)
    ∙ sym (wide_bytes (red_of 1 w * 257) (green_of 1 w * 257) (blue_of 1 w * 257) (red_of 1 w) (red_of 1 w) (green_of 1 w)
    (green_of 1 w) (blue_of 1 w) (blue_of 1 w) (omega arith) (omega arith) (omega arith) (omega arith) (omega arith) (omega arith)
    (omega arith) (omega arith) (omega arith))

pub are_bytes : (xs : List ℕ) → ((i : ℕ) → get_or xs i 0 < 256) → AreBytes xs
are_bytes xs each = λ i d h. rw (get_or_default xs i d 0 h) (each i)

-- where a tile begins inside its level
pub tile_begins : (s : Shape) (p : ℕ) (n : PageName) → IsWithinLimits s → IsPage s n
    → (n.col * s.tile < side s.width n.level) × (n.row * s.tile < side s.height n.level)
unfolding columns_at rows_at
tile_begins s p n limits is = (
  lt_up (side s.width n.level) s.tile n.col (omega (arith, limits.least_tile)) is.col_inside,
  lt_up (side s.height n.level) s.tile n.row (omega (arith, limits.least_tile)) is.row_inside,
)

-- the number of a texel of a page
number_of : (s : Shape) (p : ℕ) (n : PageName) (x y : ℕ) → index_of s n ≡ p → x < s.tile → y < s.tile
    → texel_number s n.level (n.col * s.tile + x) (n.row * s.tile + y) ≡ p * tile_area s + (y * s.tile + x)
unfolding texel_page
number_of s p n x y e across down =
    rw (div-mul-add n.col s.tile x across, div-mul-add n.row s.tile y down, mod-mul-add n.col s.tile x across, mod-mul-add n.row s.tile y down, e) refl

-- a stored word of a texel of a page, by the texels of some tiles that were read
stored_word : (s : Shape) (b narrow : List ℕ) (first count t x y : ℕ) (n : PageName) → IsStore b s 1
    → IsPiece b (tile_start s 1 first) narrow → length narrow ≡ count * tile_length s 1 → t < count → index_of s n ≡ first + t
    → x < s.tile → y < s.tile
    → stored b n.level (n.col * s.tile + x) (n.row * s.tile + y) ≡ word_at 1 narrow (t * tile_area s + (y * s.tile + x))
unfolding stored
stored_word s b narrow first count t x y n store piece full tile e across down =
    let j : ℕ = t * tile_area s + (y * s.tile + x) in
    let here : y * s.tile + x < tile_area s = mul-add-lt y s.tile x s.tile down across in
    let inside : j < count * tile_area s = omega (arith, tile_room t count (tile_area s) tile) in
    let place : (first + t) * tile_area s + (y * s.tile + x) ≡ first * tile_area s + j = omega arith in
    rw (store.shape_is, store.depth_is)
    (ap (word_at 1 (drop header_length b)) (number_of s (first + t) n x y e across down ∙ place)
    ∙ sym (word_same 1 narrow (drop header_length b) j (first * tile_area s + j)
    (texel_of_piece b narrow (tile_area s) (texel_length 1) first count j piece full inside)))

-- a place of a level that is clamped is that of a tile's clamped place
pub clamped_place : (c t w x : ℕ) → c * t < w → x < t → min (c * t + x) (w - 1) ≡ c * t + min x (min t (w - c * t) - 1)
clamped_place c t w x begins inside = omega arith

-- a texel of a page's tile, by the texels of some tiles that were read
pub wide_texel : (s : Shape) (b narrow : List ℕ) (first count t i : ℕ) → IsWithinLimits s → IsStore b s 1 → AreBytes narrow
    → IsPiece b (tile_start s 1 first) narrow → length narrow ≡ count * tile_length s 1 → t < count → first + count ≤ pages_of s → i < tile_area s
    → doubled (piece_at 3 narrow (t * tile_area s + (min (i / s.tile) (rows_inside s (first + t) - 1) * s.tile
    + min (i % s.tile) (columns_inside s (first + t) - 1)))) ≡ word_bytes 2 (tile_word s (widened (stored b)) (first + t) i)
wide_texel s b narrow first count t i limits store bytes piece full tile pages inside =
    let n = name_at s (first + t) in
    let some : 1 ≤ s.tile = omega (arith, limits.least_tile) in
    let is = (are_inverse s some limits.least_width).index (first + t) (omega arith) in
    let begins = tile_begins s (first + t) n limits is.0 in
    let x : ℕ = min (i % s.tile) (columns_inside s (first + t) - 1) in
    let y : ℕ = min (i / s.tile) (rows_inside s (first + t) - 1) in
    let across : i % s.tile < s.tile = mod_below i s.tile some in
    let down : i / s.tile < s.tile = div_below i s.tile s.tile some inside in
    let j : ℕ = t * tile_area s + (y * s.tile + x) in
    ap doubled (sym (texel_words 1 narrow j (inl refl) bytes))
    ∙ doubled_word (word_at 1 narrow j)
    ∙ ap (λ w. word_bytes 2 (widened_word w)) (sym (stored_word s b narrow first count t x y n store piece full tile is.1
    (omega (arith, across)) (omega (arith, down))))
    ∙ ap (λ u. word_bytes 2 (widened_word (stored b n.level u (n.row * s.tile + y))))
    (sym (clamped_place n.col s.tile (side s.width n.level) (i % s.tile) begins.0 across))
    ∙ ap (λ u. word_bytes 2 (widened_word (stored b n.level (min (n.col * s.tile + i % s.tile) (side s.width n.level - 1)) u)))
    (sym (clamped_place n.row s.tile (side s.height n.level) (i / s.tile) begins.1 down))

-- the lines of one tile more
pub next_wide_tile : (s : Shape) (b narrow tile old new : List ℕ) (first count t t' columns rows at k m from : ℕ) → IsWithinLimits s → IsStore b s 1
    → AreBytes narrow → IsPiece b (tile_start s 1 first) narrow → length narrow ≡ count * tile_length s 1 → t < count → first + count ≤ pages_of s
    → t' ≡ s.tile → columns ≡ columns_inside s (first + t) → rows ≡ rows_inside s (first + t)
    → at ≡ 6 * (t * (t' * t')) → k ≡ 6 * (t' * t') → at ≤ length old → length new ≡ k
    → tile ≡ take m (drop from narrow) → from ≡ 3 * (t * (t' * t')) → m ≡ 3 * (t' * t')
    → HasWideLines tile t' columns rows t' new → HasLines s 2 (widened (stored b)) first t s.tile old
    → HasLines s 2 (widened (stored b)) first (t + 1) s.tile (put_mid at k old new)
next_wide_tile s b narrow tile old new first count t t' columns rows at k m from limits store bytes piece full below pages et ec er e size room
    whole cut begin long wide has = record {
      each = λ n i p q. each n i q (up_to n t p);
    } where
      area : t' * t' ≡ tile_area s
      area = rw et refl

      some : 1 ≤ s.tile
      some = omega (arith, limits.least_tile)

      placed : t * (t' * t') ≡ t * tile_area s
      placed = ap (λ n. t * n) area

      each : (n i : ℕ) → i < tile_area s → (n < t) ⊎ (n ≡ t)
          → tile_piece (texel_length 2) s.tile (put_mid at k old new) n i ≡ word_bytes 2 (tile_word s (widened (stored b)) (first + n) i)
      each n i q (inl h) =
          piece_kept 6 old new (t * tile_area s) (tile_area s) (n * tile_area s + i) at k (omega (arith, e, placed))
          (omega (arith, size, area)) room whole
          (inl (omega (arith, tile_room n t (tile_area s) h)))
          ∙ has.each n i h q
      each n i q (inr h) =
          let across : i % s.tile < t' = omega (arith, mod_below i s.tile some) in
          let down : i / s.tile < t' = omega (arith, div_below i s.tile s.tile some q) in
          let split : i ≡ i / s.tile * t' + i % s.tile = rw et (omega (arith, div-add-mod' i s.tile)) in
          let x : ℕ = min (i % s.tile) (columns - 1) in
          let y : ℕ = min (i / s.tile) (rows - 1) in
          let here : y * t' + x < t' * t' = mul-add-lt y t' x t' (omega (arith, down)) (omega (arith, across)) in
          ap (λ u. piece_at 6 (put_mid at k old new) (u * tile_area s + i)) h
          ∙ piece_written 6 old new (t * tile_area s) (tile_area s) i at k (omega (arith, e, placed)) (omega (arith, size, area)) room whole q
          ∙ ap (piece_at 6 new) split ∙ wide.each (i / s.tile) (i % s.tile) down across
          ∙ ap (λ l. doubled (piece_at 3 l (y * t' + x))) cut
          ∙ ap doubled (piece_of_slice 3 narrow (t * (t' * t')) m from (y * t' + x) begin (omega (arith, piece_end 3 (y * t' + x) (t' * t') here, long)))
          ∙ ap (λ u. doubled (piece_at 3 narrow (t * (u * u) + (y * u + x)))) et
          ∙ ap (λ u. doubled (piece_at 3 narrow (t * tile_area s + (y * s.tile + min (i % s.tile) (u - 1))))) ec
          ∙ ap (λ u. doubled (piece_at 3 narrow (t * tile_area s +
          (min (i / s.tile) (u - 1) * s.tile + min (i % s.tile) (columns_inside s (first + t) - 1))))) er
          ∙ wide_texel s b narrow first count t i limits store bytes piece full below pages q
          ∙ ap (λ u. word_bytes 2 (tile_word s (widened (stored b)) (first + u) i)) (sym h)

-- where a tile of a row of tiles ends
pub wide_room : (t count t' side n : ℕ) → t < count → t' ≡ side → n ≡ count * (side * side * 6) → 6 * (t * (t' * t')) + 6 * (t' * t') ≤ n
wide_room t count t' side n below e full = rw e (omega (arith, full, tile_room t count (side * side) below))

pub cut_length : (xs : List ℕ) (m a : ℕ) → a + m ≤ length xs → length (take m (drop a xs)) ≡ m
cut_length xs m a room = length-take-le m (drop a xs) (omega (arith, length-drop a xs))

pub front_length : (new xs : List ℕ) (n : ℕ) → length new ≡ length (take n xs) → n ≤ length xs → length new ≡ n
front_length new xs n e room = e ∙ length-take-le n xs room

-- What a store holds.
use Rattle.std.proofs.Common.{◌≡◌, ℕ, ◌+◌, ◌*◌, ◌%◌, ◌<◌, ◌≤◌, true, None, inl, inr, List, ◌++◌, length, drop, refl, sym, ap, ◌∙◌, arith}
use Rattle.std.proofs.lemmas.List.{get_or-take, get_or-drop, length-append, length-drop}
use Rattle.std.proofs.Math.Seq.{drop-append_seam}
use Rattle.std.proofs.lemmas.Nat.{mul-add-lt, mod_below}
use Rattle.std.specs.Prelude.{slice_index}
use Rattle.vt_pages.specs.Depths.{IsDepth, AreBytes, texel_length, word_bytes}
use Rattle.vt_pages.specs.Numbers.{number_from, number_bytes}
use Rattle.vt_pages.specs.Texels.{Source}
use Rattle.vt_pages.proofs.Words.{bytes_make_word}
use Rattle.vt_pages.proofs.TexelWords.{words_small}
use Rattle.vt_outside.specs.Files.{IsPiece}
use Rattle.vt_pages.specs.Shape.{Shape}
use Rattle.vt_pages.specs.Pages.{pages_of, refusal_of, texel_page}
use Rattle.vt_pages.specs.Laws.{IsInside}
use Rattle.vt_pages.proofs.Lines.{texel_is_page}
use Rattle.vt_pages.proofs.Tiles.{tiles_hold_places}
use Rattle.vt_tiles.specs.Format.{has_magic, header_bytes, tile_area, tile_length, tiles_bytes, store_bytes, store_length, store_depth, header_length, header_shape, texel_number, stored}
use Rattle.vt_tiles.specs.Laws.{StoresOpen, StoresHoldSources, StoredWordsAreSmall, PiecesHoldTexels}
use Rattle.vt_tiles.specs.TileLines.{piece_at, tile_word}
use Rattle.vt_tiles.proofs.Accepted.{accepted_small}
use Rattle.vt_tiles.proofs.Flaws.{no_flaw, spelled_shape, whole_shape}
use Rattle.vt_tiles.proofs.Headers.{spelled_depth, header_sixteen}
use Rattle.vt_tiles.proofs.Pieces.{bytes_same, place_in, word_piece, word_same}
use Rattle.vt_tiles.proofs.Tiles.{tiles_piece, tiles_bytes_length, tile_word_is}

-- the number that the four bytes of a number spell
abbrev spelled : ℕ → ℕ
spelled n = number_from (number_bytes 4 n) 0 4

-- it is that number, where it is small
number_back : (n : ℕ) → n ≤ 16384 → spelled n ≡ n
number_back n small = omega arith

store_width : (s : Shape) (d : ℕ) (src : Source) → IsDepth d → number_from (store_bytes s d src) 4 4 ≡ spelled s.width
unfolding store_bytes header_bytes
store_width s d src (inl one) = rw one refl
store_width s d src (inr two) = rw two refl

store_height : (s : Shape) (d : ℕ) (src : Source) → IsDepth d → number_from (store_bytes s d src) 8 4 ≡ spelled s.height
unfolding store_bytes header_bytes
store_height s d src (inl one) = rw one refl
store_height s d src (inr two) = rw two refl

store_tile : (s : Shape) (d : ℕ) (src : Source) → IsDepth d → number_from (store_bytes s d src) 12 4 ≡ spelled s.tile
unfolding store_bytes header_bytes
store_tile s d src (inl one) = rw one refl
store_tile s d src (inr two) = rw two refl

pub store_shape : (s : Shape) (d : ℕ) (src : Source) → IsDepth d → refusal_of s ≡ None → header_shape (store_bytes s d src) ≡ s
store_shape s d src depth accepted =
    let small = accepted_small s accepted in
    spelled_shape (store_bytes s d src) s.width s.height s.tile
    (sym (store_width s d src depth ∙ number_back s.width small.few_columns))
    (sym (store_height s d src depth ∙ number_back s.height small.few_rows))
    (sym (store_tile s d src depth ∙ number_back s.tile (omega (arith, small.few_tile))))

pub store_depth_is : (s : Shape) (d : ℕ) (src : Source) → IsDepth d → store_depth (store_bytes s d src) ≡ d
unfolding store_bytes header_bytes store_depth
store_depth_is s d src (inl one) = rw one refl
store_depth_is s d src (inr two) = rw two refl

store_magic : (s : Shape) (d : ℕ) (src : Source) → IsDepth d → has_magic (store_bytes s d src) ≡ true
unfolding store_bytes header_bytes has_magic
store_magic s d src (inl one) = rw one refl
store_magic s d src (inr two) = rw two refl

pub length-store : (s : Shape) (d : ℕ) (src : Source) → IsDepth d → length (store_bytes s d src) ≡ store_length s d
unfolding store_bytes
length-store s d src depth = omega (
  arith,
  length-append (header_bytes s d) (tiles_bytes s d src 0 (pages_of s)),
  header_sixteen s d depth,
  tiles_bytes_length s d src 0 (pages_of s) depth,
)

-- the texels of a store are behind its header
store_texels : (s : Shape) (d : ℕ) (src : Source) → IsDepth d → drop header_length (store_bytes s d src) ≡ tiles_bytes s d src 0 (pages_of s)
unfolding store_bytes
store_texels s d src depth =
    ap (λ n. drop n (header_bytes s d ++ tiles_bytes s d src 0 (pages_of s))) (sym (header_sixteen s d depth))
    ∙ drop-append_seam (header_bytes s d) (tiles_bytes s d src 0 (pages_of s))

pub stores_open : StoresOpen
stores_open s d src depth accepted =
    let shape = store_shape s d src depth accepted in
    let deep = store_depth_is s d src depth in
    let whole = length-store s d src depth in
    let long : 16 ≤ length (store_bytes s d src) = omega (arith, whole) in
    record {
      no_flaw = no_flaw (store_bytes s d src) (length (store_bytes s d src)) (store_magic s d src depth) long
          (ap refusal_of shape ∙ accepted)
          (whole ∙ ap (λ z. store_length z d) (sym shape) ∙ ap (λ n. store_length (header_shape (store_bytes s d src)) n) (sym deep));
      shape_is = shape;
      depth_is = deep;
    }

place_inside : (s : Shape) (x y : ℕ) → 1 ≤ s.tile → y % s.tile * s.tile + x % s.tile < tile_area s
place_inside s x y some = mul-add-lt (y % s.tile) s.tile (x % s.tile) s.tile (mod_below y s.tile some) (mod_below x s.tile some)

-- the texel of a tile is the source's
texel_is : (s : Shape) (src : Source) (k x y : ℕ) → 1 ≤ s.tile → IsInside s k x y
    → tile_word s src (texel_page s k x y) (y % s.tile * s.tile + x % s.tile) ≡ src k x y
texel_is s src k x y some h =
    sym (tile_word_is s src (texel_page s k x y) (y % s.tile * s.tile + x % s.tile) (place_inside s x y some))
    ∙ (tiles_hold_places s some src k x y h).1

pub stores_hold_sources : StoresHoldSources
unfolding stored
stores_hold_sources s d src k x y depth accepted h small =
    let some : 1 ≤ s.tile = (accepted_small s accepted).some_tile in
    let p = texel_page s k x y in
    let j = y % s.tile * s.tile + x % s.tile in
    let z : 0 + p ≡ p = omega arith in
    let piece : piece_at (texel_length d) (tiles_bytes s d src 0 (pages_of s)) (p * tile_area s + j) ≡ word_bytes d (src k x y) =
    tiles_piece s d src 0 (pages_of s) p j depth (texel_is_page s k x y some h).inside (place_inside s x y some)
    ∙ ap (λ q. word_bytes d (tile_word s src q j)) z ∙ ap (word_bytes d) (texel_is s src k x y some h) in
    rw (store_shape s d src depth accepted, store_depth_is s d src depth, store_texels s d src depth)
    (word_same d (tiles_bytes s d src 0 (pages_of s)) (word_bytes d (src k x y)) (p * tile_area s + j) 0
    (piece ∙ sym (word_piece d (src k x y) depth))
    ∙ bytes_make_word d (src k x y) depth small)

dropped_bytes : (b : List ℕ) (k : ℕ) → AreBytes b → AreBytes (drop k b)
dropped_bytes b k are = λ i d h. rw (get_or-drop k b i d) (are (k + i) d (omega (arith, length-drop k b)))

pub stored_words_are_small : StoredWordsAreSmall
unfolding stored
stored_words_are_small b k x y bytes =
    words_small (store_depth b) (drop header_length b) (texel_number (header_shape b) k x y) (spelled_depth b) (dropped_bytes b header_length bytes)

-- a byte of a piece
byte_of_piece : (b tile : List ℕ) (at n i : ℕ) → IsPiece b at tile → length tile ≡ n → i < n → slice_index tile i ≡ slice_index b (at + i)
byte_of_piece b tile at n i piece full h = ap (λ l. slice_index l i) piece.same
    ∙ get_or-take (length tile) (drop at b) i 0 (omega arith) ∙ get_or-drop at b i 0

-- a texel of a piece that has the place of some tiles
pub texel_of_piece : (b tiles : List ℕ) (area z p count j : ℕ) → IsPiece b (header_length + p * (area * z)) tiles
    → length tiles ≡ count * (area * z) → j < count * area → piece_at z tiles j ≡ piece_at z (drop header_length b) (p * area + j)
texel_of_piece b tiles area z p count j piece full h = bytes_same tiles (drop header_length b) (z * j) (z * (p * area + j)) z
    (λ c q. byte_of_piece b tiles (header_length + p * (area * z)) (count * (area * z)) (z * j + c) piece full (place_in z count area j c h q)
    ∙ ap (slice_index b) (let e : header_length + p * (area * z) + (z * j + c) ≡ header_length + (z * (p * area + j) + c) = omega arith in e)
    ∙ sym (get_or-drop header_length b (z * (p * area + j) + c) 0))

pub pieces_hold_texels : PiecesHoldTexels
unfolding stored
pieces_hold_texels s d b tile k x y store h piece full =
    let accepted : refusal_of s ≡ None = ap refusal_of (sym store.shape_is) ∙ whole_shape b (length b) store.no_flaw in
    let some : 1 ≤ s.tile = (accepted_small s accepted).some_tile in
    let j = y % s.tile * s.tile + x % s.tile in
    let inside : j < 1 * tile_area s = omega (arith, place_inside s x y some) in
    let whole : length tile ≡ 1 * tile_length s d = omega (arith, full) in
    rw (store.shape_is, store.depth_is)
    (word_same d tile (drop header_length b) j (texel_page s k x y * tile_area s + j)
    (texel_of_piece b tile (tile_area s) (texel_length d) (texel_page s k x y) 1 j piece whole inside))

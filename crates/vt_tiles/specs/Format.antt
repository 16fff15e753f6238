-- The form of a tile store: a header, and the tiles of all pages by their indexes.
use Rattle.std.specs.Prelude.{ℕ, ◌+◌, ◌*◌, ◌%◌, Bool, not, nat_lt, ◌==◌, ◌||◌, if◌then◌else◌, Option, Some, None, is_some, List, ◌++◌, length, take, drop, flat_map, codes, bytes_eq}
use Rattle.std.specs.List.{range_with_len}
use Rattle.vt_pages.specs.Depths.{texel_length, word_bytes, word_at}
use Rattle.vt_pages.specs.Numbers.{number_from, number_bytes}
use Rattle.vt_pages.specs.Texels.{Source}
use Rattle.vt_pages.specs.Shape.{Shape, shape_of}
use Rattle.vt_pages.specs.Pages.{pages_of, texel_page, tile_words, refusal_of}
use Rattle.vt_tiles.specs.declared.error.StoreError.{StoreError}
use Rattle.vt_tiles.specs.declared.error.StoreError.TheVariants.{BadMagic, BadGeometry, WrongLength}

-- the four bytes that a store begins with, by its depth
abbrev pub magic : ℕ → List ℕ
magic d = if d == 2 then codes "VTS2" else codes "VTS1"

-- the bytes begin as a store of one depth or the other does
unfoldable pub has_magic : List ℕ → Bool
has_magic b = bytes_eq (take 4 b) (magic 1) || bytes_eq (take 4 b) (magic 2)

-- the depth that a store's first bytes tell
unfoldable pub store_depth : List ℕ → ℕ
store_depth b = if bytes_eq (take 4 b) (magic 2) then 2 else 1

-- how many bytes the header has
abbrev pub header_length : ℕ
header_length = 16

-- the header of a store: its magic, the sides of the texture and the side of a tile, each number in four bytes
unfoldable pub header_bytes : Shape → ℕ → List ℕ
header_bytes s d = magic d ++ (number_bytes 4 s.width ++ (number_bytes 4 s.height ++ number_bytes 4 s.tile))

-- how many texels a tile has
abbrev pub tile_area : Shape → ℕ
tile_area s = s.tile * s.tile

-- how many bytes a tile has
abbrev pub tile_length : Shape → ℕ → ℕ
tile_length s d = tile_area s * texel_length d

-- where the tile of a page begins
abbrev pub tile_start : Shape → ℕ → ℕ → ℕ
tile_start s d p = header_length + p * tile_length s d

-- how many bytes a store has: it ends where the tile of one more page would begin
abbrev pub store_length : Shape → ℕ → ℕ
store_length s d = tile_start s d (pages_of s)

-- the bytes of a page's tile: those of its texels, row by row
unfoldable pub tile_bytes : Shape → ℕ → Source → ℕ → List ℕ
tile_bytes s d src p = flat_map (word_bytes d) (tile_words s src p)

-- the bytes of so many tiles from a page on, by index
unfoldable pub tiles_bytes : Shape → ℕ → Source → ℕ → ℕ → List ℕ
tiles_bytes s d src first count = flat_map (tile_bytes s d src) (range_with_len first count)

-- the store of a texel source at a depth: its header, and then the tiles of all pages by index
unfoldable pub store_bytes : Shape → ℕ → Source → List ℕ
store_bytes s d src = header_bytes s d ++ tiles_bytes s d src 0 (pages_of s)

-- the shape that a store's header tells
unfoldable pub header_shape : List ℕ → Shape
header_shape b = shape_of (number_from b 4 4) (number_from b 8 4) (number_from b 12 4)

-- the first flaw of a store of so many bytes, of which at least the header is known
unfoldable pub flaw_of : List ℕ → ℕ → Option StoreError
flaw_of head n =
    if not (has_magic head) then Some BadMagic
    else (if nat_lt n header_length then Some (WrongLength header_length n)
    else (if is_some (refusal_of (header_shape head)) then Some BadGeometry
    else (if n == store_length (header_shape head) (store_depth head) then None
    else Some (WrongLength (store_length (header_shape head) (store_depth head)) n))))

-- the first flaw of the bytes as a store, if they have one
abbrev pub store_flaw : List ℕ → Option StoreError
store_flaw b = flaw_of b (length b)

-- the number of a texel among all those of a store: the texels of the pages before its own, and its place in its tile
abbrev pub texel_number : Shape → ℕ → ℕ → ℕ → ℕ
texel_number s k x y = texel_page s k x y * tile_area s + (y % s.tile * s.tile + x % s.tile)

-- the texel source that a store's bytes hold
unfoldable pub stored : List ℕ → Source
stored b k x y = word_at (store_depth b) (drop header_length b) (texel_number (header_shape b) k x y)

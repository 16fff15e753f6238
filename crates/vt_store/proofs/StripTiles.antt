-- A strip of a texture: its numbers, the tiles that are made of it, and the rows that are halved.
use Rattle.std.proofs.Common.{◌≡◌, ℕ, ◌+◌, ◌-◌, ◌*◌, ◌<◌, ◌≤◌, Option, Some, List, length, take, drop, min, sym, ap, ◌∙◌, subst, arith}
use Rattle.std.specs.Prelude.{IfSome}
use Rattle.std.proofs.lemmas.List.{length-take-le, length-drop}
use Rattle.std.proofs.lemmas.Nat.{mul-le}
use Rattle.vt_definitions.specs.Depths.{texel_length, word_bytes}
use Rattle.vt_definitions.specs.Sides.{side}
use Rattle.vt_definitions.specs.Texels.{Source}
use Rattle.vt_definitions.proofs.TexelWords.{texel_words}
use Rattle.vt_outside.specs.Files.{IsPiece}
use Rattle.vt_ppm.specs.declared.header.Header.{Header}
use Rattle.vt_ppm.specs.Format.{IsTexture, depth_of}
use Rattle.vt_ppm.specs.Image.{texel_of}
use Rattle.vt_ppm.specs.Strips.{IsTextureIfKnown, texture_of, row_length, sample_rows}
use Rattle.vt_mip.specs.StripChains.{texture_texel}
use Rattle.vt_mip.proofs.Words.{chain-zero}
use Rattle.vt_pages.specs.declared.PageName.{PageName}
use Rattle.vt_pages.specs.Shape.{Shape, shape_of}
use Rattle.vt_pages.specs.Pages.{IsWithinLimits, index_at, levels_of, pages_of, rows_at, columns_at, name_at}
use Rattle.vt_pages.proofs.Counts.{lt_up, columns_some, pages_below-zero}
use Rattle.vt_pages.proofs.Names.{name_at-index, index_at_below}
use Rattle.vt_tiles.specs.Format.{tiles_bytes}
use Rattle.vt_tiles.specs.TileLines.{HasTileRows, piece_at, tile_rows_length}
use Rattle.vt_ppm.specs.StripPlaces.{strip_rows}
use Rattle.vt_store.specs.StripStores.{strip_tiles}
use Rattle.vt_tiles.proofs.Pieces.{piece_end}
use Rattle.vt_store.proofs.Widening.{piece_of_slice}

-- the numbers of a strip
pub record IsStrip (s : Shape) (h : Header) (i y count columns : ℕ) : Type 0 where
  pub begins : i * s.tile < s.height
  pub place : y ≡ i * s.tile
  pub some : 1 ≤ count
  pub ends : y + count ≤ s.height
  pub width : h.width ≡ s.width
  pub height : h.height ≡ s.height
  pub name : name_at s (i * columns) ≡ record { level = 0; col = 0; row = i }
  pub page : i * columns < pages_of s
  pub counts : count ≡ strip_rows h s.tile i
  pub across : columns ≡ columns_at s 0
  pub along : (name_at s (i * columns)).col + columns ≤ columns_at s (name_at s (i * columns)).level

first_page : (s : Shape) (i : ℕ) → index_at s 0 0 i ≡ i * columns_at s 0
unfolding index_at
first_page s i = omega (arith, pages_below-zero s)

strip_begins : (s : Shape) (i : ℕ) → 1 ≤ s.tile → i < rows_at s 0 → i * s.tile < s.height
unfolding rows_at
strip_begins s i some inside = lt_up s.height s.tile i some inside

pub is_strip : (s : Shape) (h : Header) (tile i t y height count columns : ℕ) → shape_of h.width h.height tile ≡ s → IsWithinLimits s
    → i < rows_at s 0 → t ≡ s.tile → height ≡ s.height → y ≡ i * t → count ≡ min t (height - y) → columns ≡ columns_at s 0
    → IsStrip s h i y count columns
is_strip s h tile i t y height count columns shape limits inside et eh ey ec ew =
    let some : 1 ≤ s.tile = omega (arith, limits.least_tile) in
    let begins : i * s.tile < s.height = strip_begins s i some inside in
    let place : y ≡ i * s.tile = ey ∙ ap (λ (n : ℕ). i * n) et in
    let across : 0 < columns_at s 0 = columns_some s 0 some limits.least_width in
    let level : 0 < levels_of s = omega (arith, limits.some_level) in
    let page : index_at s 0 0 i ≡ i * columns = first_page s i ∙ ap (λ (n : ℕ). i * n) (sym ew) in
    let name : name_at s (i * columns) ≡ record { level = 0; col = 0; row = i } =
    ap (name_at s) (sym page) ∙ name_at-index s 0 0 i level across inside in
    let high : h.height ≡ s.height = ap (λ (z : Shape). z.height) shape in
    record {
      begins = begins;
      place = place;
      some = omega (arith, ec, et, eh, place, begins, limits.least_tile);
      ends = omega (arith, ec, et, eh, place, begins);
      width = ap (λ (z : Shape). z.width) shape;
      height = high;
      name = name;
      page = (let below = index_at_below s 0 0 i level across inside in omega (arith, below, page));
      counts = ec ∙ ap (λ (n : ℕ). min n (height - y)) et ∙ ap (λ (n : ℕ). min s.tile (n - y)) (eh ∙ sym high)
          ∙ ap (λ (n : ℕ). min s.tile (h.height - n)) place;
      across = ew;
      along = subst (λ (n : PageName). n.col + columns ≤ columns_at s n.level) (sym name) (let all : 0 + columns ≤ columns_at s 0 = omega (arith, ew) in all);
    }

-- its rows are those that its row of tiles lies on
pub strip_length : (s : Shape) (h : Header) (i y count columns d n : ℕ) → IsStrip s h i y count columns → d ≡ depth_of h.maximum
    → n ≡ strip_rows h s.tile i * row_length h → n ≡ tile_rows_length s d (i * columns)
strip_length s h i y count columns d n is ed full =
    subst (λ (z : PageName). n ≡ texel_length d * (side s.width z.level * min s.tile (side s.height z.level - z.row * s.tile))) (sym is.name)
    (let here : n ≡ texel_length d * (s.width * min s.tile (s.height - i * s.tile)) =
    full ∙ ap (λ (m : ℕ). strip_rows h s.tile i * (texel_length m * h.width)) (sym ed)
    ∙ ap (λ (m : ℕ). strip_rows h s.tile i * (texel_length d * m)) is.width
    ∙ ap (λ (m : ℕ). min s.tile (m - i * s.tile) * (texel_length d * s.width)) is.height ∙ omega arith in here)

-- and have the texture's words
strip_rows_are : (s : Shape) (h : Header) (i y count columns : ℕ) (b rows : List ℕ) → IsStrip s h i y count columns → IsTexture b (texture_of h b)
    → rows ≡ sample_rows h b y count → HasTileRows s (depth_of h.maximum) (texture_texel h b) (i * columns) rows
strip_rows_are s h i y count columns b rows is texture read = record {
  each = subst (λ (z : PageName). (x v : ℕ) → x < side s.width z.level → v < min s.tile (side s.height z.level - z.row * s.tile)
      → piece_at (texel_length (depth_of h.maximum)) rows (v * side s.width z.level + x)
      ≡ word_bytes (depth_of h.maximum) (texture_texel h b z.level x (z.row * s.tile + v))) (sym is.name) each;
} where
  each : (x v : ℕ) → x < s.width → v < min s.tile (s.height - i * s.tile)
      → piece_at (texel_length (depth_of h.maximum)) rows (v * s.width + x)
      ≡ word_bytes (depth_of h.maximum) (texture_texel h b 0 x (i * s.tile + v))
  each x v across down =
      let d : ℕ = depth_of h.maximum in
      let w : ℕ = h.width in
      let samples : List ℕ = (texture_of h b).samples in
      let wide : x < w = omega (arith, is.width) in
      let low : v < count = omega (arith, is.counts, is.height) in
      let up : (v + 1) * w ≤ count * w = mul-le (v + 1) w count w (omega arith) (omega arith) in
      let here : v * w + x < count * w = omega (arith, up, wide) in
      let room : texel_length d * (v * w + x) + texel_length d ≤ count * row_length h =
      omega (arith, piece_end (texel_length d) (v * w + x) (count * w) here) in
      let place : y * w + (v * w + x) ≡ (i * s.tile + v) * w + x =
      (let e : y * w ≡ i * s.tile * w = ap (λ (n : ℕ). n * w) is.place in omega (arith, e)) in
      ap (λ (n : ℕ). piece_at (texel_length d) rows (v * n + x)) (sym is.width)
      ∙ ap (λ l. piece_at (texel_length d) l (v * w + x)) read
      ∙ piece_of_slice (texel_length d) samples (y * w) (count * row_length h) (y * row_length h) (v * w + x) (omega arith) room
      ∙ ap (piece_at (texel_length d) samples) place
      ∙ sym (texel_words d samples ((i * s.tile + v) * w + x) texture.image.depth texture.bytes)
      ∙ ap (word_bytes d) (sym (chain-zero d (texel_of (texture_of h b)) h.width h.height x (i * s.tile + v)))

if_known : (known : Option (List ℕ)) (P : List ℕ → Type 0) (b : List ℕ) → known ≡ Some b → IfSome known P → P b
if_known known P b e all = subst (λ (t : Option (List ℕ)). IfSome t P) e all

-- so the tiles that are made of them are the strip's
pub strip_made : (known : Option (List ℕ)) (s : Shape) (h : Header) (i y count columns d : ℕ) (rows tiles : List ℕ) → IsStrip s h i y count columns
    → d ≡ depth_of h.maximum → IsTextureIfKnown known h → IfSome known (λ b. rows ≡ sample_rows h b y count)
    → ((src : Source) → HasTileRows s d src (i * columns) rows → tiles ≡ tiles_bytes s d src (i * columns) columns)
    → (b : List ℕ) → known ≡ Some b → tiles ≡ strip_tiles s h i b
strip_made known s h i y count columns d rows tiles is ed texture read made b e =
    let has = strip_rows_are s h i y count columns b rows is (texture.each b e) (if_known known (λ b. rows ≡ sample_rows h b y count) b e read) in
    made (texture_texel h b) (subst (λ (n : ℕ). HasTileRows s n (texture_texel h b) (i * columns) rows) (sym ed) has)
    ∙ ap (λ (n : ℕ). tiles_bytes s n (texture_texel h b) (i * columns) columns) ed
    ∙ ap (λ (n : ℕ). tiles_bytes s (depth_of h.maximum) (texture_texel h b) (i * n) n) is.across

-- and the rows are the next ones that are halved
pub strip_piece : (known : Option (List ℕ)) (s : Shape) (h : Header) (i y count columns taken : ℕ) (rows : List ℕ) → IsStrip s h i y count columns
    → taken ≡ i * s.tile → IsTextureIfKnown known h → IfSome known (λ b. rows ≡ sample_rows h b y count)
    → (b : List ℕ) → known ≡ Some b
    → IsPiece (texture_of h b).samples (texel_length (depth_of h.maximum) * (h.width * taken)) rows
strip_piece known s h i y count columns taken rows is et texture read b e =
    let row = if_known known (λ b. rows ≡ sample_rows h b y count) b e read in
    let samples : List ℕ = (texture_of h b).samples in
    let z : ℕ = row_length h in
    let at : y * z ≡ texel_length (depth_of h.maximum) * (h.width * taken) =
    ap (λ (n : ℕ). n * z) (is.place ∙ sym et) ∙ omega arith in
    let full : length samples ≡ texel_length (depth_of h.maximum) * (h.width * h.height) = (texture.each b e).image.full in
    let more : (y + count) * z ≤ h.height * z = mul-le (y + count) z h.height z (omega (arith, is.ends, is.height)) (omega arith) in
    let room : y * z + count * z ≤ length samples = omega (arith, more, full) in
    let long : length rows ≡ count * z = ap length row ∙ length-take-le (count * z) (drop (y * z) samples) (omega (arith, length-drop (y * z) samples, room)) in
    record {
      within = omega (arith, at, long, room);
      same = row ∙ ap (λ (n : ℕ). take n (drop (y * z) samples)) (sym long) ∙ ap (λ (n : ℕ). take (length rows) (drop n samples)) at;
    }

-- Rows of tiles, from the rows of texels of a level on which they lie.
use Rattle.std.proofs.Common.{◌≡◌, ℕ, ◌+◌, ◌-◌, ◌*◌, ◌<◌, ◌≤◌, List, length, take, drop, min, refl, sym, ap, ◌∙◌, subst, arith}
use Rattle.std.proofs.lemmas.Nat.{mul-le}
use Rattle.vt_definitions.specs.Depths.{texel_length, word_bytes}
use Rattle.vt_definitions.specs.Sides.{side}
use Rattle.vt_definitions.specs.Texels.{Source}
use Rattle.vt_mip.specs.Chains.{ChainView, chain_width, chain_height, chain_texel, IsTexelRaster}
use Rattle.vt_pages.specs.declared.PageName.{PageName}
use Rattle.vt_pages.specs.Shape.{Shape}
use Rattle.vt_pages.specs.Pages.{IsPage, IsWithinLimits, columns_at, index_of, name_at}
use Rattle.vt_store.specs.ChainStores.{HasShape}
use Rattle.vt_tiles.specs.TileLines.{HasTileRows, HasLines, GainsLine, piece_at, rows_inside, tile_rows_length}
use Rattle.vt_tiles.proofs.Pieces.{piece_end}
use Rattle.vt_tiles.specs.Format.{tiles_bytes}
use Rattle.vt_store.proofs.Tiles.{next_line}
use Rattle.vt_store.proofs.Widening.{piece_of_slice, clamped_place, tile_begins}

-- a line of a row of tiles lies on a row of its level, or past its end on its last
pub line_place : (r t line h inside : ℕ) → r * t < h → line < t → inside ≡ min t (h - r * t) → r * t + min line (inside - 1) ≡ min (r * t + line) (h - 1)
line_place r t line h inside begins short e = ap (λ (n : ℕ). r * t + min line (n - 1)) e ∙ sym (clamped_place r t h line begins short)

-- a row of texels among those of a row of tiles
pub row_texels : (s : Shape) (d : ℕ) (src : Source) (p i z w y from m x : ℕ) (name : PageName) (rows : List ℕ) → HasTileRows s d src p rows
    → name ≡ name_at s p → i < rows_inside s p → z ≡ texel_length d → w ≡ side s.width name.level → from ≡ z * w * i → m ≡ z * w
    → y ≡ name.row * s.tile + i → x < w → piece_at (texel_length d) (take m (drop from rows)) x ≡ word_bytes d (src name.level x y)
row_texels s d src p i z w y from m x name rows has named inside ez ew begins long place across =
    let q : PageName = name_at s p in
    let wide : w ≡ side s.width q.level = ew ∙ ap (λ (n : PageName). side s.width n.level) named in
    let at : from ≡ texel_length d * (i * w) = begins ∙ ap (λ (n : ℕ). n * w * i) ez ∙ omega arith in
    let room : texel_length d * x + texel_length d ≤ m =
    omega (arith, piece_end (texel_length d) x w across, long ∙ ap (λ (n : ℕ). n * w) ez) in
    piece_of_slice (texel_length d) rows (i * w) m from x at room
    ∙ ap (λ (n : ℕ). piece_at (texel_length d) rows (i * n + x)) wide
    ∙ has.each x i (omega (arith, wide)) inside
    ∙ ap (λ (n : PageName). word_bytes d (src n.level x (n.row * s.tile + i))) (sym named)
    ∙ ap (λ (n : ℕ). word_bytes d (src name.level x n)) (sym place)

-- one line more of a row of tiles, of the row of texels on which it lies
pub more_lines : (s : Shape) (d : ℕ) (src : Source) (p count line i z w h t inside from m : ℕ) (name : PageName) (rows before after : List ℕ)
    → IsWithinLimits s → IsPage s name → index_of s name ≡ p → name ≡ name_at s p → t ≡ s.tile → z ≡ texel_length d
    → w ≡ side s.width name.level → h ≡ side s.height name.level → 1 ≤ w → inside ≡ rows_inside s p → 1 ≤ inside → line < t
    → i ≡ min line (inside - 1) → name.col + count ≤ columns_at s name.level → from ≡ z * w * i → m ≡ z * w → HasTileRows s d src p rows
    → GainsLine z (take m (drop from rows)) w t name.col line count count before after → HasLines s d src p count line before
    → HasLines s d src p count (line + 1) after
more_lines s d src p count line i z w h t inside from m name rows before after limits is e named et ez ew eh wide ei some short ci along
    begins long has gained lines =
    let begin = (tile_begins s p name limits is).1 in
    let high : inside ≡ min s.tile (side s.height name.level - name.row * s.tile) =
    ei ∙ ap (λ (n : PageName). min s.tile (side s.height n.level - n.row * s.tile)) (sym named) in
    let place : name.row * s.tile + i ≡ min (name.row * s.tile + line) (side s.height name.level - 1) =
    ap (λ (n : ℕ). name.row * s.tile + n) ci
    ∙ line_place name.row s.tile line (side s.height name.level) inside begin (omega (arith, short, et)) high in
    let at : name.row * s.tile + i ≡ min (name.row * t + line) (h - 1) =
    place ∙ ap (λ (n : ℕ). min (name.row * n + line) (side s.height name.level - 1)) (sym et)
    ∙ ap (λ (n : ℕ). min (name.row * t + line) (n - 1)) (sym eh) in
    next_line s d src p count line (name.row * s.tile + i) w h t z name (take m (drop from rows)) before after et ez ew eh wide at is e along
    (λ x across. row_texels s d src p i z w (name.row * s.tile + i) from m x name rows has named (omega (arith, ci, ei, some)) ez ew begins long
    refl across) gained lines

-- a slice of a row's length lies within them
pub row_inside_rows : (s : Shape) (d p i z w m : ℕ) (name : PageName) → name ≡ name_at s p → i < rows_inside s p → z ≡ texel_length d
    → w ≡ side s.width name.level → m ≡ tile_rows_length s d p → z * w * i + z * w ≤ m
row_inside_rows s d p i z w m name named inside ez ew full =
    let wide : w ≡ side s.width (name_at s p).level = ew ∙ ap (λ (n : PageName). side s.width n.level) named in
    let more : (i + 1) * (z * w) ≤ rows_inside s p * (z * w) = mul-le (i + 1) (z * w) (rows_inside s p) (z * w) (omega arith) (omega arith) in
    let whole : m ≡ z * (w * rows_inside s p) = full ∙ ap (λ (n : ℕ). n * (side s.width (name_at s p).level * rows_inside s p)) (sym ez)
    ∙ ap (λ (n : ℕ). z * (n * rows_inside s p)) (sym wide) in
    omega (arith, more, whole)

-- a level of a chain has the sides of a page's level
pub record IsAt (c : ChainView) (s : Shape) (k p : ℕ) : Type 0 where
  pub columns : side s.width (name_at s p).level ≡ chain_width c k
  pub rows : side s.height (name_at s p).level ≡ chain_height c k

pub is_at : (c : ChainView) (s : Shape) (p : ℕ) (name : PageName) → HasShape c s → name ≡ name_at s p → IsAt c s name.level p
is_at c s p name is named =
    let same : (name_at s p).level ≡ name.level = ap (λ (n : PageName). n.level) (sym named) in
    record {
      columns = ap (side s.width) same ∙ ap (λ (z : Shape). side z.width name.level) (sym is.same);
      rows = ap (side s.height) same ∙ ap (λ (z : Shape). side z.height name.level) (sym is.same);
    }

-- the rows of texels that are cut out of a level's samples
module _ (c : ChainView) (s : Shape) (k p z w t inside from m : ℕ) (name : PageName) (samples : List ℕ)
    (at : IsAt c s k p) (named : name ≡ name_at s p) (is : IsPage s name) (limits : IsWithinLimits s)
    (raster : IsTexelRaster c.base.depth (chain_texel c k) (chain_width c k) (chain_height c k) samples)
    (ez : z ≡ texel_length c.base.depth) (ew : w ≡ chain_width c k) (et : t ≡ s.tile) (ei : inside ≡ rows_inside s p)
    (begins : from ≡ z * w * (name.row * t)) (long : m ≡ z * w * inside) where
  down : (name_at s p).row * s.tile < side s.height (name_at s p).level
  down = (let b = tile_begins s p name limits is in
      subst (λ (n : PageName). n.row * s.tile < side s.height n.level) named b.1)

  row : ℕ
  row = (name_at s p).row * s.tile

  same_row : name.row * t ≡ row
  unfolding row
  same_row = ap (λ (n : PageName). n.row * t) named ∙ ap (λ (n : ℕ). (name_at s p).row * n) et

  ends : row + inside ≤ chain_height c k
  unfolding row
  ends = omega (arith, ei, at.rows, down)

  pub rows_cut : from + m ≤ length samples
  rows_cut =
      let more : (row + inside) * (z * w) ≤ chain_height c k * (z * w) =
      mul-le (row + inside) (z * w) (chain_height c k) (z * w) ends (omega arith) in
      let first : from ≡ z * w * row = begins ∙ ap (λ (n : ℕ). z * w * n) same_row in
      let whole : length samples ≡ z * (w * chain_height c k) = raster.full ∙ ap (λ (n : ℕ). n * (chain_width c k * chain_height c k)) (sym ez)
      ∙ ap (λ (n : ℕ). z * (n * chain_height c k)) (sym ew) in
      omega (arith, more, first, long, whole)

  pub rows_are : (src : Source)
      → ((x y : ℕ) → x < chain_width c k → y < chain_height c k → src (name_at s p).level x y ≡ chain_texel c k x y)
      → HasTileRows s c.base.depth src p (take m (drop from samples))
  rows_are src same = record { each = each } where
    each : (x y : ℕ) → x < side s.width (name_at s p).level → y < rows_inside s p
        → piece_at (texel_length c.base.depth) (take m (drop from samples)) (y * side s.width (name_at s p).level + x)
        ≡ word_bytes c.base.depth (src (name_at s p).level x ((name_at s p).row * s.tile + y))
    each x y across below =
        let wide : x < chain_width c k = omega (arith, at.columns) in
        let i : ℕ = y * chain_width c k + x in
        let up : (y + 1) * chain_width c k ≤ inside * chain_width c k =
        mul-le (y + 1) (chain_width c k) inside (chain_width c k) (omega (arith, ei)) (omega arith) in
        let here : i < inside * chain_width c k = omega (arith, up, wide) in
        let size : m ≡ texel_length c.base.depth * (inside * chain_width c k) =
        long ∙ ap (λ (n : ℕ). n * w * inside) ez ∙ ap (λ (n : ℕ). texel_length c.base.depth * n * inside) ew ∙ omega arith in
        let place : from ≡ texel_length c.base.depth * ((name_at s p).row * s.tile * chain_width c k) =
        begins ∙ ap (λ (n : ℕ). z * w * n) (ap (λ (n : PageName). n.row * t) named ∙ ap (λ (n : ℕ). (name_at s p).row * n) et)
        ∙ ap (λ (n : ℕ). n * w * ((name_at s p).row * s.tile)) ez
        ∙ ap (λ (n : ℕ). texel_length c.base.depth * n * ((name_at s p).row * s.tile)) ew ∙ omega arith in
        let there : (name_at s p).row * s.tile * chain_width c k + i ≡ ((name_at s p).row * s.tile + y) * chain_width c k + x = omega arith in
        let low : (name_at s p).row * s.tile + y < chain_height c k = omega (arith, at.rows, down, below) in
        ap (λ (n : ℕ). piece_at (texel_length c.base.depth) (take m (drop from samples)) (y * n + x)) at.columns
        ∙ piece_of_slice (texel_length c.base.depth) samples ((name_at s p).row * s.tile * chain_width c k) m from i place
        (omega (arith, piece_end (texel_length c.base.depth) i (inside * chain_width c k) here, size))
        ∙ ap (piece_at (texel_length c.base.depth) samples) there
        ∙ raster.each x ((name_at s p).row * s.tile + y) wide low
        ∙ ap (word_bytes c.base.depth) (sym (same x ((name_at s p).row * s.tile + y) wide low))

-- the numbers of a level's rows are small
pub rows_small : (z w r i : ℕ) → z ≤ 6 → w ≤ 16384 → r ≤ 16384 → i ≤ 128 → z * w * r + z * w * i ≤ 1623195648
rows_small z w r i small wide high few =
    let a : z * w ≤ 6 * 16384 = mul-le z w 6 16384 small wide in
    let b : z * w * (r + i) ≤ 98304 * 16512 = mul-le (z * w) (r + i) 98304 16512 (omega (arith, a)) (omega arith) in
    omega (arith, b)

-- tiles that were made at a depth that is the chain's
pub tiles_at : (s : Shape) (d e : ℕ) (src : Source) (p count : ℕ) (rows tiles : List ℕ) → d ≡ e → HasTileRows s e src p rows
    → ((src : Source) → HasTileRows s d src p rows → tiles ≡ tiles_bytes s d src p count) → tiles ≡ tiles_bytes s e src p count
tiles_at s d e src p count rows tiles same has made =
    made src (subst (λ (n : ℕ). HasTileRows s n src p rows) (sym same) has) ∙ ap (λ (n : ℕ). tiles_bytes s n src p count) same

-- a row of tiles lies within the room for the longest
pub row_room : (count most z n : ℕ) → count ≤ most → n ≡ most * z → count * z ≤ n
row_room count most z n few full = omega (arith, mul-le count z most z few (omega arith), full)

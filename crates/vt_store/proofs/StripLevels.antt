-- The numbers of the strips of a texture, and the tiles of the levels behind the first.
use Rattle.std.proofs.Common.{◌≡◌, ℕ, suc, ◌+◌, ◌-◌, ◌*◌, ◌/◌, ◌%◌, ◌<◌, ◌≤◌, ◌⊎◌, inl, inr, Option, Some, List, min, refl, sym, ap, ◌∙◌, subst, arith}
use Rattle.std.proofs.lemmas.Nat.{mul-le}
use Rattle.vt_definitions.specs.Depths.{texel_length, word_bytes}
use Rattle.vt_definitions.specs.Sides.{side}
use Rattle.vt_definitions.specs.Texels.{Source}
use Rattle.vt_definitions.proofs.Levels.{side_at_least}
use Rattle.vt_ppm.specs.declared.header.Header.{Header}
use Rattle.vt_ppm.specs.Format.{depth_of}
use Rattle.vt_ppm.specs.Image.{ImageView, IsLawfulImage}
use Rattle.vt_ppm.specs.Strips.{IsTextureIfKnown, texture_of, row_length}
use Rattle.vt_ppm.proofs.SampleValues.{depth_is}
use Rattle.vt_mip.specs.Halves.{IsHalf}
use Rattle.vt_mip.specs.Levels.{IsLevel}
use Rattle.vt_mip.specs.StripChains.{StripChainView, texture_texel}
use Rattle.vt_mip.specs.TakenRows.{HalvingView, HalvesFront}
use Rattle.vt_mip.proofs.Following.{side_after, chains_go_on}
use Rattle.vt_mip.proofs.Words.{half_is_next}
use Rattle.vt_pages.specs.declared.PageName.{PageName}
use Rattle.vt_pages.specs.Shape.{Shape}
use Rattle.vt_pages.specs.Pages.{IsWithinLimits, levels_of, pages_of, pages_below, rows_at, columns_at, name_at, level_of}
use Rattle.vt_pages.proofs.Counts.{lt_up, pages_below-suc, pages_below-zero, pages_below_le, pages_of-is}
use Rattle.vt_pages.proofs.Names.{IsLevelIn, level_of_has}
use Rattle.vt_store.specs.ChainStores.{level_source}
use Rattle.vt_tiles.specs.Format.{tiles_bytes}
use Rattle.vt_tiles.specs.TileLines.{tile_word}
use Rattle.vt_store.specs.StripStores.{strip_shape}
use Rattle.vt_ppm.specs.StripPlaces.{strip_rows, strips_of}
use Rattle.vt_store.proofs.Tiles.{tiles_are}
use Rattle.vt_tiles.proofs.Tiles.{tiles_piece, tiles_bytes_length}

-- the pages of the first level
pub first_pages : (s : Shape) → pages_below s 1 ≡ rows_at s 0 * columns_at s 0
first_pages s = pages_below-suc s 0 ∙ (let z = pages_below-zero s in omega (arith, z))

pub first_inside : (s : Shape) → 1 ≤ levels_of s → pages_below s 1 ≤ pages_of s
first_inside s some = omega (arith, pages_below_le s 1 (levels_of s) some, pages_of-is s)

-- a strip's pages are among them
pub strip_inside : (s : Shape) (i : ℕ) → 1 ≤ levels_of s → i < rows_at s 0 → (i + 1) * columns_at s 0 ≤ pages_of s
strip_inside s i some inside =
    let more = mul-le (i + 1) (columns_at s 0) (rows_at s 0) (columns_at s 0) (omega arith) (omega arith) in
    omega (arith, more, first_pages s, first_inside s some)

-- how many strips there are
pub strips_are : (s : Shape) (height t : ℕ) → height ≡ s.height → t ≡ s.tile → (height + t - 1) / t ≡ rows_at s 0
unfolding rows_at
strips_are s height t eh et = ap (λ (n : ℕ). (n + t - 1) / t) eh ∙ ap (λ (n : ℕ). (s.height + n - 1) / n) et

-- the texture of the strips has the sides of the pages
pub record AreStrips (s : Shape) (h : Header) : Type 0 where
  pub width : h.width ≡ s.width
  pub height : h.height ≡ s.height
  pub all : strips_of h s.tile ≡ rows_at s 0

pub are_strips : {F : Type 0} (s : Shape) (v : StripChainView F) → strip_shape v ≡ s → AreStrips s v.header
are_strips s v shape =
    let high : v.header.height ≡ s.height = ap (λ (z : Shape). z.height) shape in
    record { width = ap (λ (z : Shape). z.width) shape; height = high; all = strips_are s v.header.height s.tile high refl }

-- where a strip begins
pub strip_low : (s : Shape) (i : ℕ) → 1 ≤ s.tile → i < rows_at s 0 → i * s.tile < s.height
unfolding rows_at
strip_low s i some inside = lt_up s.height s.tile i some inside

pub all_taken : (s : Shape) → 1 ≤ s.tile → s.height ≤ rows_at s 0 * s.tile
unfolding rows_at
all_taken s some = omega arith

-- a word of a page behind the first level
rest_word : (s : Shape) (h : Header) (b : List ℕ) (p : ImageView) (n i : ℕ) → h.width ≡ s.width → h.height ≡ s.height → 1 ≤ s.width → 1 ≤ s.height
    → IsLevel (texture_of h b) 1 p → 1 ≤ (name_at s n).level
    → tile_word s (level_source (record { base = p; tile = s.tile }) 1) n i ≡ tile_word s (texture_texel h b) n i
rest_word s h b p n i ew eh wide high level later =
    let name : PageName = name_at s n in
    let k : ℕ = name.level - 1 in
    let e : suc k ≡ name.level = omega (arith, later) in
    let columns : side p.width k ≡ side s.width name.level =
    ap (λ (m : ℕ). side m k) level.columns ∙ side_after h.width k ∙ ap (side h.width) e ∙ ap (λ (m : ℕ). side m name.level) ew in
    let rows : side p.height k ≡ side s.height name.level =
    ap (λ (m : ℕ). side m k) level.rows ∙ side_after h.height k ∙ ap (side h.height) e ∙ ap (λ (m : ℕ). side m name.level) eh in
    let some_columns = side_at_least s.width name.level wide in
    let some_rows = side_at_least s.height name.level high in
    let x : ℕ = min (name.col * s.tile + i % s.tile) (side s.width name.level - 1) in
    let y : ℕ = min (name.row * s.tile + i / s.tile) (side s.height name.level - 1) in
    chains_go_on (texture_of h b) p k x y (omega (arith, ew)) (omega (arith, eh)) level (omega (arith, columns, some_columns))
    (omega (arith, rows, some_rows))
    ∙ ap (λ (m : ℕ). texture_texel h b m x y) e

-- the level of a page that is not before some levels
level_from : (s : Shape) (k p : ℕ) → 1 ≤ levels_of s → pages_below s k ≤ p → p < pages_of s → k ≤ (name_at s p).level
unfolding name_at
level_from s k p some from inside = below (either k (level_of s p)) where
  has : IsLevelIn s p (levels_of s - 1) (level_of s p)
  has = level_of_has s p some inside

  either : (a b : ℕ) → (a ≤ b) ⊎ (suc b ≤ a)
  either a b = grind arith

  below : (k ≤ level_of s p) ⊎ (suc (level_of s p) ≤ k) → k ≤ level_of s p
  below (inl h) = h
  below (inr h) = absurd (let no : ⊥ = omega (arith, has.to, pages_below_le s (suc (level_of s p)) k h) in no)

-- the tiles behind the first level are those of the chain of level 1
pub rest_tiles : (s : Shape) (h : Header) (b : List ℕ) (p : ImageView) → IsWithinLimits s → h.width ≡ s.width → h.height ≡ s.height
    → IsLevel (texture_of h b) 1 p
    → tiles_bytes s p.depth (level_source (record { base = p; tile = s.tile }) 1) (pages_below s 1) (pages_of s - pages_below s 1)
    ≡ tiles_bytes s (depth_of h.maximum) (texture_texel h b) (pages_below s 1) (pages_of s - pages_below s 1)
rest_tiles s h b p limits ew eh level =
    let d : ℕ = depth_of h.maximum in
    let first : ℕ = pages_below s 1 in
    let count : ℕ = pages_of s - first in
    let src : Source = level_source (record { base = p; tile = s.tile }) 1 in
    ap (λ (n : ℕ). tiles_bytes s n src first count) level.depth
    ∙ tiles_are s d (texture_texel h b) first count (tiles_bytes s d src first count) (depth_is h.maximum) (omega (arith, limits.least_tile))
    (tiles_bytes_length s d src first count (depth_is h.maximum))
    (record {
      each = λ t i low inside. tiles_piece s d src first count t i (depth_is h.maximum) low inside
          ∙ ap (word_bytes d) (rest_word s h b p (first + t) i ew eh limits.least_width limits.least_height level
          (level_from s 1 (first + t) limits.some_level (omega arith) (omega (arith, low))));
    })

-- the image that was halved is level 1
pub level_made : (known : Option (List ℕ)) (h : Header) (half : HalvingView) (p : ImageView) → IsTextureIfKnown known h
    → ((b : List ℕ) → known ≡ Some b → HalvesFront (texture_of h b) half)
    → ((q : ImageView) → HalvesFront q half → IsHalf q p) → IsLawfulImage p
    → (b : List ℕ) → known ≡ Some b → IsLevel (texture_of h b) 1 p
level_made known h half p texture halves made lawful b e =
    let t = texture.each b e in
    half_is_next (texture_of h b) p t.image.depth t.image.some_columns t.image.some_rows t.bytes (made (texture_of h b) (halves b e)) lawful

-- the room for a strip's rows
pub rows_room : (n t d w e side z w' : ℕ) → n ≡ t * (texel_length d * w) → side ≡ t → z ≡ texel_length e → e ≡ d → w' ≡ w → n ≡ side * (z * w')
rows_room n t d w e side z w' full es ez ed ew =
    full ∙ ap (λ (m : ℕ). m * (texel_length d * w)) (sym es) ∙ ap (λ (m : ℕ). side * (m * w)) (sym (ez ∙ ap texel_length ed))
    ∙ ap (λ (m : ℕ). side * (z * m)) (sym ew)

pub strip_room : (count side z w n : ℕ) → count ≤ side → n ≡ side * (z * w) → count * (z * w) ≤ n
strip_room count side z w n few full = omega (arith, mul-le count (z * w) side (z * w) few (omega arith), full)

pub strip_small : (count z w : ℕ) → count ≤ 128 → z ≤ 6 → w ≤ 16384 → count * (z * w) ≤ 12582912
strip_small count z w few small wide =
    let a : z * w ≤ 6 * 16384 = mul-le z w 6 16384 small wide in
    let b : count * (z * w) ≤ 128 * 98304 = mul-le count (z * w) 128 98304 few (omega (arith, a)) in omega (arith, b)

pub strip_bytes : (s : Shape) (h h' : Header) (i d z w t height count n : ℕ) → h' ≡ h → h.width ≡ s.width → h.height ≡ s.height
    → d ≡ depth_of h.maximum → z ≡ texel_length d → w ≡ s.width → t ≡ s.tile → height ≡ s.height → count ≡ min t (height - i * t)
    → n ≡ count * (z * w) → n ≡ strip_rows h' s.tile i * row_length h'
strip_bytes s h h' i d z w t height count n same ew eh ed ez wide et high ec full =
    subst (λ (g : Header). n ≡ strip_rows g s.tile i * row_length g) (sym same)
    (let rows : count ≡ strip_rows h s.tile i = ec ∙ ap (λ (m : ℕ). min m (height - i * m)) et ∙ ap (λ (m : ℕ). min s.tile (m - i * s.tile)) (high ∙ sym eh) in
    let row : z * w ≡ row_length h = ap (λ (m : ℕ). m * w) (ez ∙ ap texel_length ed) ∙ ap (λ (m : ℕ). texel_length (depth_of h.maximum) * m) (wide ∙ sym ew) in
    (let all : n ≡ strip_rows h s.tile i * row_length h = full ∙ ap (λ (m : ℕ). m * (z * w)) rows ∙ ap (λ (m : ℕ). strip_rows h s.tile i * m) row in all))

-- how many rows were taken after a strip
pub next_taken : (s : Shape) (h : Header) (i : ℕ) → h.height ≡ s.height → 1 ≤ s.tile → i < rows_at s 0
    → i * s.tile + strip_rows h s.tile i ≡ min ((i + 1) * s.tile) h.height
next_taken s h i eh some inside =
    let low = strip_low s i some inside in
    let more : (i + 1) * s.tile ≡ i * s.tile + s.tile = omega arith in omega (arith, low, eh, more)

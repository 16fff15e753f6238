-- The rows of tiles of a level, from the level's image.
use Rattle.std.proofs.Common.{◌≡◌, ℕ, suc, ◌+◌, ◌-◌, ◌*◌, ◌/◌, ◌<◌, ◌≤◌, Option, List, ◌++◌, length, take, drop, min, refl, sym, ap, ◌∙◌, subst, arith}
use Rattle.std.specs.Prelude.{option_map, Result, Ok, Err, IsErrOf}
use Rattle.std.specs.Result.{IsErrAnd}
use Rattle.std.proofs.lemmas.Nat.{mul-le}
use Rattle.vt_definitions.specs.Depths.{AreBytes, texel_length}
use Rattle.vt_definitions.specs.Sides.{side}
use Rattle.vt_definitions.specs.Texels.{Source}
use Rattle.vt_outside.specs.Files.{Files, IsPiece, IsThere, with_appended, with_bytes}
use Rattle.vt_outside.specs.declared.answers.OutsideError.{OutsideError}
use Rattle.vt_ppm.specs.Image.{ImageView, IsLawfulImage, texel_of}
use Rattle.vt_mip.specs.Chains.{ChainView, chain_texel, chain_width, chain_height, IsTexelRaster}
use Rattle.vt_mip.specs.InPlace.{ShrinksFront}
use Rattle.vt_mip.specs.TakenRows.{HalvingView}
use Rattle.vt_mip.proofs.Words.{chain-zero, first_level, texel_raster}
use Rattle.vt_pages.specs.declared.PageName.{PageName}
use Rattle.vt_pages.specs.Shape.{Shape}
use Rattle.vt_pages.specs.Pages.{IsPage, IsWithinLimits, levels_of, pages_below, columns_at, rows_at, index_at, name_at}
use Rattle.vt_pages.proofs.Counts.{columns_some, lt_up, pages_below-suc, pages_below_le, pages_of-is}
use Rattle.vt_store.specs.ChainStores.{AddsPages, AddsPart, HasLevelTexels, IsHalvedLevelOf}
use Rattle.vt_tiles.specs.Format.{tiles_bytes}
use Rattle.vt_tiles.specs.TileLines.{HasTileRows, rows_inside, tile_rows_length}
use Rattle.vt_store.proofs.AddedPages.{adds_none, adds_more, adds_part, there_bytes}
use Rattle.vt_store.proofs.Tiles.{columns_fall}
use Rattle.vt_store.proofs.TileRows.{IsAt, rows_are, tiles_at}

-- the first page of a row of tiles is one
pub row_page : (s : Shape) (k r : ℕ) → IsWithinLimits s → k < levels_of s → r < rows_at s k → IsPage s (record { level = k; col = 0; row = r })
row_page s k r limits level row = record {
  level_inside = level;
  col_inside = columns_some s k (omega (arith, limits.least_tile)) limits.least_width;
  row_inside = row;
}

-- the rows of an image on which a row of tiles lies
module _ (s : Shape) (p : ImageView) (n z w t inside from m : ℕ) (name : PageName) (samples : List ℕ)
    (named : name ≡ name_at s n) (is : IsPage s name) (limits : IsWithinLimits s) (lawful : IsLawfulImage p) (bytes : AreBytes p.samples)
    (columns : p.width ≡ side s.width (name_at s n).level) (high : p.height ≡ side s.height (name_at s n).level) (same : samples ≡ p.samples)
    (ez : z ≡ texel_length p.depth) (ew : w ≡ p.width) (et : t ≡ s.tile) (ei : inside ≡ rows_inside s n)
    (begins : from ≡ z * w * (name.row * t)) (long : m ≡ z * w * inside) where
  alone : ChainView
  alone = record { base = p; tile = s.tile }

  at : IsAt alone s 0 n
  unfolding alone
  at = record { columns = sym columns; rows = sym high }

  raster : IsTexelRaster alone.base.depth (chain_texel alone 0) (chain_width alone 0) (chain_height alone 0) samples
  unfolding alone
  raster = subst (λ l. IsTexelRaster alone.base.depth (chain_texel alone 0) (chain_width alone 0) (chain_height alone 0) l) (sym same)
      (texel_raster p 0 p (first_level p lawful) bytes)

  image_rows_are : (src : Source) → HasLevelTexels src (name_at s n).level p → HasTileRows s p.depth src n (take m (drop from samples))
  unfolding alone
  image_rows_are src has =
      rows_are alone s 0 n z w t inside from m name samples at named is limits raster ez ew et ei begins long src
      (λ x y a b. has.each x y a b ∙ sym (chain-zero p.depth (texel_of p) p.width p.height x y))

-- the rows that were read have the level's words
pub read_rows : (s : Shape) (p : ImageView) (v : HalvingView) (src : Source) (n k r : ℕ) (rows : List ℕ) → IsWithinLimits s → k < levels_of s
    → r < rows_at s k → name_at s n ≡ record { level = k; col = 0; row = r } → v.width ≡ side s.width k → v.height ≡ side s.height k
    → v.taken ≡ r * s.tile → length rows ≡ texel_length v.depth * (v.width * rows_inside s n)
    → ((q : ImageView) → ShrinksFront q v → IsPiece q.samples (texel_length q.depth * (q.width * v.taken)) rows)
    → IsHalvedLevelOf src k p v → HasTileRows s p.depth src n rows
read_rows s p v src n k r rows limits level row named wide high taken full read has =
    let piece = read p has.front in
    let z : ℕ = texel_length p.depth in
    let at : ℕ = z * (p.width * v.taken) in
    let down : (name_at s n).row ≡ r = ap (λ (q : PageName). q.row) named in
    let begins : at ≡ z * p.width * ((name_at s n).row * s.tile) =
    ap (λ (m : ℕ). z * (p.width * m)) (taken ∙ ap (λ (m : ℕ). m * s.tile) (sym down)) ∙ omega arith in
    let long : length rows ≡ z * p.width * rows_inside s n =
    full ∙ ap (λ (m : ℕ). texel_length m * (v.width * rows_inside s n)) has.front.depth ∙ ap (λ (m : ℕ). z * (m * rows_inside s n)) has.front.columns
    ∙ omega arith in
    let page = subst (IsPage s) (sym named) (row_page s k r limits level row) in
    let across = sym has.front.columns ∙ wide ∙ ap (λ (q : PageName). side s.width q.level) (sym named) in
    let over = sym has.front.rows ∙ high ∙ ap (λ (q : PageName). side s.height q.level) (sym named) in
    let texels = subst (λ (q : PageName). HasLevelTexels src q.level p) (sym named) has.texels in
    subst (λ l. HasTileRows s p.depth src n l) (sym piece.same)
    (image_rows_are s p n z p.width s.tile (rows_inside s n) at (length rows) (name_at s n) p.samples refl page limits has.lawful has.bytes
    across over refl refl refl refl refl begins long src texels)

-- and they are as long as a row of tiles needs
pub rows_full : (s : Shape) (n k r d w count m : ℕ) → name_at s n ≡ record { level = k; col = 0; row = r } → w ≡ side s.width k
    → count ≡ rows_inside s n → m ≡ texel_length d * (w * count) → m ≡ tile_rows_length s d n
rows_full s n k r d w count m named wide inside full =
    full ∙ ap (λ (q : ℕ). texel_length d * (w * q)) inside
    ∙ ap (λ (q : ℕ). texel_length d * (q * rows_inside s n)) (wide ∙ ap (λ (q : PageName). side s.width q.level) (sym named))

-- the tiles that are made of the rows
pub row_tiles : (s : Shape) (p : ImageView) (src : Source) (k r page columns d : ℕ) (rows tiles : List ℕ) → page ≡ index_at s k 0 r
    → columns ≡ columns_at s k → d ≡ p.depth → HasTileRows s p.depth src page rows
    → ((src : Source) → HasTileRows s d src page rows → tiles ≡ tiles_bytes s d src page columns)
    → tiles ≡ tiles_bytes s p.depth src (index_at s k 0 r) (columns_at s k)
row_tiles s p src k r page columns d rows tiles there across deep has made =
    tiles_at s d p.depth src page columns rows tiles deep has made
    ∙ ap (λ (n : ℕ). tiles_bytes s p.depth src n columns) there
    ∙ ap (λ (n : ℕ). tiles_bytes s p.depth src (index_at s k 0 r) n) across

-- the row of tiles is no longer than the longest
pub shorter_row : (s : Shape) (k columns z n : ℕ) → IsWithinLimits s → columns ≡ columns_at s k → n ≡ columns_at s 0 * z → columns * z ≤ n
shorter_row s k columns z n limits across full =
    let fewer : columns ≤ columns_at s 0 = omega (arith, columns_fall s k limits, across) in
    omega (arith, mul-le columns z (columns_at s 0) z fewer (omega arith), full)

-- how many rows of tiles a level has
pub rows_are_at : (s : Shape) (k h t : ℕ) → h ≡ side s.height k → t ≡ s.tile → (h + t - 1) / t ≡ rows_at s k
unfolding rows_at
rows_are_at s k h t eh et = rw (eh, et) refl

pub row_low : (s : Shape) (k r : ℕ) → 1 ≤ s.tile → r < rows_at s k → r * s.tile < side s.height k
unfolding rows_at
row_low s k r some inside = lt_up (side s.height k) s.tile r some inside

pub all_rows : (s : Shape) (k : ℕ) → 1 ≤ s.tile → side s.height k ≤ rows_at s k * s.tile
unfolding rows_at
all_rows s k some = omega arith

-- all rows of an image were taken
pub rows_taken : (s : Shape) (k r h n : ℕ) → 1 ≤ s.tile → h ≡ side s.height k → r ≡ rows_at s k → n ≡ min (r * s.tile) h → n ≡ h
rows_taken s k r h n some eh er en =
    let most = all_rows s k some in
    let e : r * s.tile ≡ rows_at s k * s.tile = ap (λ (m : ℕ). m * s.tile) er in omega (arith, most, eh, e, en)

-- what a name holds while a level's rows of tiles are added
pub level_begun : (s : Shape) (d : ℕ) (src : Source) (k : ℕ) (name : List ℕ) (f : Option Files)
    → AddsPages s d src (pages_below s k) (pages_below s k + 0 * columns_at s k) name f f
level_begun s d src k name f =
    let e : pages_below s k ≡ pages_below s k + 0 * columns_at s k = omega arith in
    subst (λ (n : ℕ). AddsPages s d src (pages_below s k) n name f f) e (adds_none s d src (pages_below s k) name f)

first_of_row : (s : Shape) (k r : ℕ) → index_at s k 0 r ≡ pages_below s k + r * columns_at s k
unfolding index_at
first_of_row s k r = omega arith

-- the tiles of a row, by the pages before and behind it
row_span : (s : Shape) (d : ℕ) (src : Source) (k r : ℕ)
    → tiles_bytes s d src (index_at s k 0 r) (columns_at s k)
    ≡ tiles_bytes s d src (pages_below s k + r * columns_at s k)
    (pages_below s k + (r + 1) * columns_at s k - (pages_below s k + r * columns_at s k))
row_span s d src k r =
    let e : columns_at s k ≡ pages_below s k + (r + 1) * columns_at s k - (pages_below s k + r * columns_at s k) = omega arith in
    ap (λ (n : ℕ). tiles_bytes s d src n (columns_at s k)) (first_of_row s k r)
    ∙ ap (tiles_bytes s d src (pages_below s k + r * columns_at s k)) e

pub level_more : (s : Shape) (d : ℕ) (src : Source) (k r : ℕ) (name : List ℕ) (f0 f1 f2 : Option Files)
    → AddsPages s d src (pages_below s k) (pages_below s k + r * columns_at s k) name f0 f1
    → f2 ≡ option_map (with_appended name (tiles_bytes s d src (index_at s k 0 r) (columns_at s k))) f1
    → AddsPages s d src (pages_below s k) (pages_below s k + (r + 1) * columns_at s k) name f0 f2
level_more s d src k r name f0 f1 f2 adds added =
    adds_more s d src (pages_below s k) (pages_below s k + r * columns_at s k) (pages_below s k + (r + 1) * columns_at s k) name
    (tiles_bytes s d src (index_at s k 0 r) (columns_at s k)) f0 f1 f2 (omega arith) (omega arith) adds (row_span s d src k r) added

pub level_part : (s : Shape) (d : ℕ) (src : Source) (k r : ℕ) (name : List ℕ) (f0 f1 f2 : Option Files) → k < levels_of s → r < rows_at s k
    → AddsPages s d src (pages_below s k) (pages_below s k + r * columns_at s k) name f0 f1
    → (n : ℕ) × (f2 ≡ option_map (with_appended name (take n (tiles_bytes s d src (index_at s k 0 r) (columns_at s k)))) f1)
    → AddsPart s d src (pages_below s k) name f0 f2
level_part s d src k r name f0 f1 f2 level row adds added =
    let more = mul-le (r + 1) (columns_at s k) (rows_at s k) (columns_at s k) (omega arith) (omega arith) in
    adds_part s d src (pages_below s k) (pages_below s k + r * columns_at s k) (pages_below s k + (r + 1) * columns_at s k) name
    (tiles_bytes s d src (index_at s k 0 r) (columns_at s k)) f0 f1 f2 (omega arith) (omega arith)
    (omega (arith, more, pages_below-suc s k, pages_below_le s (suc k) (levels_of s) (omega arith), pages_of-is s)) adds (row_span s d src k r) added

pub level_whole : (s : Shape) (d : ℕ) (src : Source) (k r : ℕ) (name : List ℕ) (f0 f1 : Option Files) → r ≡ rows_at s k
    → AddsPages s d src (pages_below s k) (pages_below s k + r * columns_at s k) name f0 f1
    → AddsPages s d src (pages_below s k) (pages_below s (k + 1)) name f0 f1
level_whole s d src k r name f0 f1 all adds =
    let e : pages_below s k + r * columns_at s k ≡ pages_below s (k + 1) =
    ap (λ (n : ℕ). pages_below s k + n * columns_at s k) all ∙ sym (pages_below-suc s k)
    ∙ ap (pages_below s) (let up : suc k ≡ k + 1 = omega arith in up) in
    subst (λ (n : ℕ). AddsPages s d src (pages_below s k) n name f0 f1) e adds

-- the name is there where tiles were added to it
image_source : ImageView → Source
image_source p k x y = texel_of p x y

pub there_added : (s : Shape) (d k end : ℕ) (p : ImageView) (name done : List ℕ) (before f0 f1 : Option Files)
    → ((src : Source) → HasLevelTexels src k p → AddsPages s d src (pages_below s k) end name f0 f1)
    → f0 ≡ option_map (with_bytes name done) before → IsThere f1 name
unfolding image_source
there_added s d k end p name done before f0 f1 adds e =
    let src : Source = image_source p in
    there_bytes name (done ++ tiles_bytes s d src (pages_below s k) (end - pages_below s k)) before f1
    ((adds src (record { each = λ x y a b. refl })).held before done e)

-- what refused a call refuses the call that it is a part of
pub passed_on : {T U : Type 0} (r : Result T OutsideError) (q : Result U OutsideError) (e f : OutsideError) → r ≡ Err e
    → IsErrAnd q (λ x. x ≡ e) → IsErrOf q f → IsErrOf r f
passed_on r (Ok x) e f was is failed = let no : ⊥ = cc in absurd no
passed_on r (Err x) e f was is failed = cc

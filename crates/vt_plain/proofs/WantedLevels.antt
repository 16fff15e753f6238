-- Levels of which the first may be left out, and which levels rows want.
use Rattle.std.proofs.Common.{◌≡◌, ℕ, zero, suc, ◌+◌, ◌-◌, ◌*◌, ◌/◌, ◌^◌, ◌<◌, ◌≤◌, refl, sym, ap, ◌∙◌, subst, arith, unsigned_abs}
use Rattle.std.proofs.Math.Nat.{div-mul-le_self}
use Rattle.std.proofs.lemmas.Nat.{le-div, mul-le}
use Rattle.vt_pages.specs.Limits.{most_levels}
use Rattle.vt_pages.specs.Sides.{side, level_count}
use Rattle.vt_pages.specs.Texels.{Source}
use Rattle.vt_mip.specs.Image.{ImageView}
use Rattle.vt_mip.specs.Chains.{chain_levels, chain_width, chain_height}
use Rattle.vt_mip.specs.Levels.{IsLevel}
use Rattle.vt_mip.proofs.Following.{side_after, levels_go_on, chains_go_on}
use Rattle.vt_camera.specs.declared.paths.Camera.{Camera}
use Rattle.vt_camera.specs.declared.surfaces.Surface.{Surface}
use Rattle.vt_camera.specs.Paths.{PathView, camera_at}
use Rattle.vt_camera.specs.Rows.{IsSurface, RowView, row_of, row_level, row_place, camera_place, span}
use Rattle.vt_camera.proofs.Ground.{ring_place_below}
use Rattle.vt_camera.proofs.LevelLemmas.{level_of_is, level_of_within}
use Rattle.vt_camera.proofs.LevelLemmas as levels
use Rattle.vt_plain.specs.declared.plain.Levels.{Levels}
use Rattle.vt_plain.specs.declared.plain.View.{View}
use Rattle.vt_plain.specs.Plain.{chain_of, levels_from, plain_picture, plain_samples, shown_word, surface_of}
use Rattle.vt_plain.specs.Views.{AreLevels, IsView}
use Rattle.vt_plain.proofs.Drawn.{rows_alike}

-- a level of a source that lacks some
pub levels_at : (n : ℕ) (source : Source) (k : ℕ) → levels_from n source k ≡ source (k - n)
unfolding levels_from
levels_at zero source k = ap source (let same : k ≡ k - 0 = omega arith in same)
levels_at (suc n) source k = refl

pub levels_whole : (source : Source) → levels_from 0 source ≡ source
unfolding levels_from
levels_whole source = refl

-- a place inside the side of a level, where some levels are left out
pub inside_level : (along : ℕ → ℕ) (skipped wanted level place size : ℕ) → place < size → along (level - skipped) ≡ size → wanted ≡ level
    → place < along (wanted - skipped)
inside_level along skipped wanted level place size inside is same =
    omega (arith, inside, is, ap (λ (n : ℕ). along (n - skipped)) same)

-- the texel of level 0 that a pixel shows
row_inside : (row : RowView) (x : ℕ) → 1 ≤ row.surface.width → 1 ≤ row.surface.height
    → ((row_place row x).0 < row.surface.width) × ((row_place row x).1 < row.surface.height)
unfolding camera_place
row_inside row x wide high = (ring_place_below _ row.surface.width wide, ring_place_below _ row.surface.height high)

inside_side : (width place k : ℕ) → place < width → place / 2 ^ k < side width k
inside_side = levels.inside_level

-- what a row that is drawn asks of its levels
pub record IsDrawable (l : Levels) (row : RowView) : Type 0 where
  pub wanted : l.skipped ≤ row_level row
  pub there : row_level row - l.skipped < chain_levels l.chain.now
  pub columns : chain_width l.chain.now (row_level row - l.skipped) ≡ side row.surface.width (row_level row)
  pub rows : chain_height l.chain.now (row_level row - l.skipped) ≡ side row.surface.height (row_level row)

pub drawable : (v : View) (y : ℕ) (row : RowView) → IsView v → y < v.path.now.height
    → row ≡ row_of v.path.now v.camera y v.levels.surface → IsDrawable v.levels row
drawable v y row is inside same =
    let r : RowView = row_of v.path.now v.camera y v.levels.surface in
    let wanted : v.levels.skipped ≤ row_level r = is.wants y inside in
    let within : row_level r < v.levels.surface.levels = level_of_within v.camera y v.levels.surface.levels is.levels.limits.some_level in
    subst (λ (t : RowView). IsDrawable v.levels t) (sym same) (record {
      wanted = wanted;
      there = is.levels.there (row_level r) wanted within;
      columns = is.levels.columns (row_level r) wanted within;
      rows = is.levels.rows (row_level r) wanted within;
    })

-- all levels of a chain
pub whole_levels : (l : Levels) (surface : Surface) → l.skipped ≡ 0 → l.surface ≡ surface
    → surface ≡ surface_of l.chain.now.base l.chain.now.tile → IsSurface surface → surface.levels ≤ most_levels → AreLevels l
whole_levels l surface none is own limits few =
    let width : surface.width ≡ l.chain.now.base.width = ap (λ (s : Surface). s.width) own in
    let height : surface.height ≡ l.chain.now.base.height = ap (λ (s : Surface). s.height) own in
    let levels : surface.levels ≡ chain_levels l.chain.now = ap (λ (s : Surface). s.levels) own in
    let here : (k : ℕ) → k - l.skipped ≡ k = λ k. omega (arith, none) in
    record {
      limits = subst IsSurface (sym is) limits;
      few = subst (λ (s : Surface). s.levels ≤ most_levels) (sym is) few;
      there = λ k from inside. omega (arith, here k, levels, ap (λ (s : Surface). s.levels) is, inside);
      columns = λ k from inside. ap (chain_width l.chain.now) (here k)
          ∙ ap (λ (n : ℕ). side n k) (sym (ap (λ (s : Surface). s.width) is ∙ width));
      rows = λ k from inside. ap (chain_height l.chain.now) (here k)
          ∙ ap (λ (n : ℕ). side n k) (sym (ap (λ (s : Surface). s.height) is ∙ height));
    }

-- a camera whose last row spans two texels of level 0 wants none of that level, where there are others
pub wants_level_1 : (path : PathView) (camera : Camera) (surface : Surface) (y : ℕ) → 1 ≤ path.height → 512 ≤ unsigned_abs camera.h / path.height
    → 2 ≤ surface.levels → y < path.height → 1 ≤ row_level (row_of path camera y surface)
wants_level_1 path camera surface y some wide levels inside =
    let h : ℕ = unsigned_abs camera.h in
    let all : 512 * path.height ≤ h / path.height * path.height = mul-le 512 path.height (h / path.height) path.height wide (omega arith) in
    let whole : h / path.height * path.height ≤ h = div-mul-le_self h path.height in
    let here : 512 * (y + 1) ≤ h = omega (arith, all, whole, inside) in
    (level_of_is camera y surface.levels).greatest 1 (omega (arith, levels)) (let far : 512 ≤ span camera y = le-div 512 h (y + 1) (omega arith) here in omega (arith, far))

-- the levels of a texture but the first one
pub later_levels : (l : Levels) (t : ImageView) (tile : ℕ) → l.skipped ≡ 1 → l.surface ≡ surface_of t tile → l.chain.now.tile ≡ tile
    → 1 ≤ tile → 2 ≤ level_count t.width t.height tile → IsSurface (surface_of t tile) → level_count t.width t.height tile ≤ most_levels
    → l.chain.now.base.width ≡ side t.width 1 → l.chain.now.base.height ≡ side t.height 1 → AreLevels l
later_levels l t tile one is tiles some more limits few wide high =
    let n : ℕ = level_count t.width t.height tile in
    let levels : l.surface.levels ≡ n = ap (λ (s : Surface). s.levels) is in
    let rest : chain_levels l.chain.now + 1 ≡ n =
    ap (λ (m : ℕ). m + 1) (ap (λ (m : ℕ). level_count l.chain.now.base.width l.chain.now.base.height m) tiles
    ∙ ap (λ (m : ℕ). level_count m l.chain.now.base.height tile) wide ∙ ap (λ (m : ℕ). level_count (side t.width 1) m tile) high)
    ∙ levels_go_on t.width t.height tile some more in
    let later : (k : ℕ) → l.skipped ≤ k → suc (k - l.skipped) ≡ k = λ k from. omega (arith, one, from) in
    record {
      limits = subst IsSurface (sym is) limits;
      few = omega (arith, levels, few);
      there = λ k from inside. omega (arith, later k from, rest, levels, inside);
      columns = λ k from inside. ap (λ (m : ℕ). side m (k - l.skipped)) wide ∙ side_after t.width (k - l.skipped) ∙ ap (side t.width) (later k from)
          ∙ ap (λ (s : Surface). side s.width k) (sym is);
      rows = λ k from inside. ap (λ (m : ℕ). side m (k - l.skipped)) high ∙ side_after t.height (k - l.skipped) ∙ ap (side t.height) (later k from)
          ∙ ap (λ (s : Surface). side s.height k) (sym is);
    }

-- a picture whose rows all want level 1 or a coarser one is that of the chain of level 1
pub pictures_go_on : (t p : ImageView) (tile : ℕ) (path : PathView) (picture : ℕ) → IsLevel t 1 p → 1 ≤ t.width → 1 ≤ t.height
    → ((y : ℕ) → y < path.height → 1 ≤ row_level (row_of path (camera_at path picture) y (surface_of t tile)))
    → plain_picture p.depth (levels_from 1 (chain_of p)) (surface_of t tile) path picture ≡ plain_samples t tile path picture
unfolding plain_samples levels_from
pictures_go_on t p tile path picture level wide high wants =
    ap (λ (d : ℕ). plain_picture d (levels_from 1 (chain_of p)) (surface_of t tile) path picture) level.depth
    ∙ rows_alike t.depth (levels_from 1 (chain_of p)) (chain_of t) (surface_of t tile) path (camera_at path picture) path.height (λ y x low inside. word y x low)
  where
    word : (y x : ℕ) → y < path.height → shown_word (levels_from 1 (chain_of p)) (row_of path (camera_at path picture) y (surface_of t tile)) x
        ≡ shown_word (chain_of t) (row_of path (camera_at path picture) y (surface_of t tile)) x
    word y x low =
        let row : RowView = row_of path (camera_at path picture) y (surface_of t tile) in
        let k : ℕ = row_level row in
        let here : suc (k - 1) ≡ k = (let some = wants y low in omega (arith, some)) in
        let column : ℕ = (row_place row x).0 / 2 ^ k in
        let line : ℕ = (row_place row x).1 / 2 ^ k in
        let spot = row_inside row x wide high in
        let across : column < side p.width (k - 1) =
        (let same : side p.width (k - 1) ≡ side t.width k =
        ap (λ (m : ℕ). side m (k - 1)) level.columns ∙ side_after t.width (k - 1) ∙ ap (side t.width) here in
        let within = inside_side t.width (row_place row x).0 k spot.0 in omega (arith, same, within)) in
        let down : line < side p.height (k - 1) =
        (let same : side p.height (k - 1) ≡ side t.height k =
        ap (λ (m : ℕ). side m (k - 1)) level.rows ∙ side_after t.height (k - 1) ∙ ap (side t.height) here in
        let within = inside_side t.height (row_place row x).1 k spot.1 in omega (arith, same, within)) in
        chains_go_on t p (k - 1) column line wide high level across down ∙ ap (λ (n : ℕ). chain_of t n column line) here

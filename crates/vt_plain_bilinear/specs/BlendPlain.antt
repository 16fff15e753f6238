-- A blend, where the pages of its texels are mapped: it is that of the plain picture.
use Rattle.std.proofs.Common.{◌≡◌, ℕ, ◌+◌, ◌-◌, ◌*◌, ◌/◌, ◌^◌, ◌<◌, ◌≤◌, zero, suc, [], ◌∷◌, ◌++◌, get_or, Option, refl, sym, ap, ◌∙◌, zero-add, add-one, arith}
use Rattle.std.specs.Prelude.{unwrap_or, IsSome, sum_by}
use Rattle.std.specs.List.{range_with_len}
use Rattle.std.proofs.Math.Nat.{div-one}
use Rattle.std.proofs.lemmas.List.Sums.{get_or-le-sum_by, sum_by-append}
use Rattle.std.proofs.lemmas.List.FromFn.{length-range_with_len, get_or-range_with_len}
use Rattle.vt_definitions.specs.Depths.{word_bytes}
use Rattle.vt_definitions.specs.Texels.{Source}
use Rattle.vt_pages.specs.Shape.{Shape}
use Rattle.vt_pages.specs.Pages.{pages_of, level_of, root_of, texel_page, IsWithinLimits}
use Rattle.vt_pages.specs.Laws.{IsInside}
use Rattle.vt_pages.proofs.Lines.{texel_is_page}
use Rattle.vt_camera.specs.Rows.{RowView, row_level}
use Rattle.vt_draw.specs.Shots.{shot_row, wants_in_rows}
use Rattle.vt_draw.proofs.Counts.{run-own}
use Rattle.vt_draw.proofs.Ranges.{range_more}
use Rattle.vt_pictures.specs.Changes.{Table}
use Rattle.vt_pictures.specs.Scenes.{Scene}
use Rattle.vt_pictures.specs.Replays.{scene_row}
use Rattle.vt_pictures.specs.FilterLaws.{picture_wants}
use Rattle.vt_pictures.specs.NearestPlain.{serves_itself}
use Rattle.vt_blend.specs.declared.blends.Texels.{Texels}
use Rattle.vt_blend.specs.declared.counting.Pages.{Pages}
use Rattle.vt_blend.specs.Corners.{corners_of, weights_of}
use Rattle.vt_blend.specs.Blends.{blended_word, texels_of, blend_of}
use Rattle.vt_plain_bilinear.specs.Served.{pages_about, texels_wanting}
use Rattle.vt_blend.specs.Counting.{times_among}
use Rattle.vt_blend.proofs.CountedRuns.{run-most}
use Rattle.vt_plain_bilinear.specs.Shown.{texel_under, blend_under, plain_blend}
use Rattle.vt_plain_bilinear.specs.Inside.{row_level_inside, pixel_corners_inside}

times-most : (pages : Pages) (p : ℕ) → times_among pages p ≤ 4
unfolding times_among
times-most pages p =
    omega (arith, run-most pages.first 1 p, run-most pages.second 1 p, run-most pages.third 1 p, run-most pages.fourth 1 p)

-- each of four pages is among them
times-some : (pages : Pages) → (1 ≤ times_among pages pages.first) × (1 ≤ times_among pages pages.second) × (1 ≤ times_among pages pages.third)
    × (1 ≤ times_among pages pages.fourth)
unfolding times_among
times-some pages = (
  omega (arith, run-own pages.first 1),
  omega (arith, run-own pages.second 1),
  omega (arith, run-own pages.third 1),
  omega (arith, run-own pages.fourth 1),
)

pub wanting-none : (s : Shape) (row : RowView) (p : ℕ) → texels_wanting s row 0 p ≡ 0
unfolding texels_wanting
wanting-none s row p = refl

pub wanting-more : (s : Shape) (row : RowView) (n p : ℕ)
    → texels_wanting s row (n + 1) p ≡ texels_wanting s row n p + times_among (pages_about s (row_level row) (corners_of row n)) p
unfolding texels_wanting
wanting-more s row n p =
    let f : ℕ → ℕ = λ x. times_among (pages_about s (row_level row) (corners_of row x)) p in
    let last : sum_by f (n ∷ []) ≡ f n = omega arith in
    ap (λ (m : ℕ). sum_by f (range_with_len 0 m)) (add-one n)
    ∙ ap (sum_by f) (range_more 0 n ∙ ap (λ (m : ℕ). range_with_len 0 n ++ m ∷ []) (omega arith))
    ∙ sum_by-append f (range_with_len 0 n) (n ∷ [])
    ∙ ap (λ (m : ℕ). sum_by f (range_with_len 0 n) + m) last

-- so many pixels want at most four texels each
pub wants_four : (s : Shape) (row : RowView) (n p : ℕ) → texels_wanting s row n p ≤ 4 * n
wants_four s row zero p = omega (arith, wanting-none s row p)
wants_four s row (suc n) p =
    let more : texels_wanting s row (suc n) p ≡ texels_wanting s row (n + 1) p = ap (λ (m : ℕ). texels_wanting s row m p) (sym (add-one n)) in
    omega (arith, more, wanting-more s row n p, wants_four s row n p, times-most (pages_about s (row_level row) (corners_of row n)) p)

-- a page among those of a pixel's texels is wanted by its row
row_wants : (s : Shape) (row : RowView) (n x p : ℕ) → x < n → 1 ≤ times_among (pages_about s (row_level row) (corners_of row x)) p
    → 1 ≤ texels_wanting s row n p
unfolding texels_wanting
row_wants s row n x p inside one =
    let f : ℕ → ℕ = λ z. times_among (pages_about s (row_level row) (corners_of row z)) p in
    let most = get_or-le-sum_by f (range_with_len 0 n) x 0 (let e = length-range_with_len 0 n in omega (arith, e, inside)) in
    let here : f (get_or (range_with_len 0 n) x 0) ≡ f x = ap f (get_or-range_with_len 0 n x 0 inside ∙ zero-add x) in
    omega (arith, most, here, one)

-- and by the picture
picture_has : (scene : Scene) (i x y p : ℕ) → x < scene.path.width → y < scene.path.height
    → 1 ≤ times_among (pages_about scene.shape (row_level (scene_row scene i y)) (corners_of (scene_row scene i y) x)) p
    → 1 ≤ picture_wants texels_wanting scene i p
unfolding wants_in_rows
picture_has scene i x y p inside below one =
    let f : ℕ → ℕ = λ z. texels_wanting scene.shape (shot_row scene.shape scene.path i z) scene.path.width p in
    let most = get_or-le-sum_by f (range_with_len 0 scene.path.height) y 0 (let e = length-range_with_len 0 scene.path.height in omega (arith, e, below)) in
    let here : f (get_or (range_with_len 0 scene.path.height) y 0) ≡ f y = ap f (get_or-range_with_len 0 scene.path.height y 0 below ∙ zero-add y) in
    let row = row_wants scene.shape (scene_row scene i y) scene.path.width x p inside one in
    omega (arith, most, here, row)

-- a texel whose page is mapped is served by it
mapped_texel : (source : Source) (s : Shape) (m : Table) (k x y : ℕ) → IsWithinLimits s → IsInside s k x y → IsSome (m (texel_page s k x y))
    → texel_under source s m k x y ≡ source k x y
mapped_texel source s m k x y limits inside mapped =
    let page = texel_is_page s k x y (let a = limits.least_tile in omega (arith, a)) inside in
    let served = serves_itself s m (texel_page s k x y) limits page.inside mapped in
    let none : k - k ≡ 0 = omega arith in
    ap (λ (i : ℕ). source i (x / 2 ^ (i - k)) (y / 2 ^ (i - k)))
    (ap (λ (o : Option ℕ). level_of s (unwrap_or o (root_of s))) served ∙ page.level)
    ∙ ap (λ (i : ℕ). source k (x / 2 ^ i) (y / 2 ^ i)) none
    ∙ ap (λ (i : ℕ). source k i (y / 1)) (div-one x)
    ∙ ap (λ (i : ℕ). source k x i) (div-one y)

pub mapped_blend_is_plain : (source : Source) (scene : Scene) (m : Table) (i x y : ℕ) → IsWithinLimits scene.shape
    → x < scene.path.width → y < scene.path.height
    → ((p : ℕ) → p < pages_of scene.shape → 1 ≤ picture_wants texels_wanting scene i p → IsSome (m p))
    → blend_under source scene m i x y ≡ plain_blend source scene i x y
unfolding blend_of
mapped_blend_is_plain source scene m i x y limits inside below needed =
    let s = scene.shape in
    let row = scene_row scene i y in
    let k = row_level row in
    let c = corners_of row x in
    let some : 1 ≤ s.tile = (let a = limits.least_tile in omega (arith, a)) in
    let level = row_level_inside s scene.path i y limits in
    let in_level = pixel_corners_inside s scene.path i y x limits in
    let among = times-some (pages_about s k c) in
    let mapped : (u v : ℕ) → IsInside s k u v → 1 ≤ times_among (pages_about s k c) (texel_page s k u v) → texel_under source s m k u v ≡ source k u v =
    λ u v at one.
    mapped_texel source s m k u v limits at
    (needed (texel_page s k u v) (texel_is_page s k u v some at).inside (picture_has scene i x y (texel_page s k u v) inside below one)) in
    let first = mapped c.column c.line (level, in_level.column, in_level.line) among.0 in
    let second = mapped c.next_column c.line (level, in_level.next_column, in_level.line) among.1 in
    let third = mapped c.column c.next_line (level, in_level.column, in_level.next_line) among.2 in
    let fourth = mapped c.next_column c.next_line (level, in_level.next_column, in_level.next_line) among.3 in
    let same : texels_of (texel_under source s m k) c ≡ texels_of (source k) c =
    λ n. record { first = first n; second = second n; third = third n; fourth = fourth n } in
    ap (λ (u : Texels). word_bytes scene.depth (blended_word scene.depth (weights_of c) u)) same

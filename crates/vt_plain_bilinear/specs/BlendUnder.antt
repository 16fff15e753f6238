-- A blend, by true notes: it is that of the source's texels of the pages that serve the corners.
use Rattle.std.proofs.Common.{◌≡◌, ℕ, ◌-◌, ◌/◌, ◌^◌, ◌≤◌, Option, List, sym, ap, ◌∙◌, arith}
use Rattle.std.specs.Prelude.{unwrap_or}
use Rattle.vt_definitions.specs.Depths.{word_bytes}
use Rattle.vt_definitions.specs.Texels.{Source}
use Rattle.vt_pages.specs.Shape.{Shape}
use Rattle.vt_pages.specs.Pages.{level_of, root_of, texel_page, IsWithinLimits}
use Rattle.vt_pages.specs.Laws.{IsInside}
use Rattle.vt_pages.proofs.Lines.{texel_is_page}
use Rattle.vt_camera.specs.Rows.{row_level}
use Rattle.vt_draw.specs.Lookups.{Note}
use Rattle.vt_pictures.specs.Changes.{Table}
use Rattle.vt_pictures.specs.Scenes.{Scene}
use Rattle.vt_pictures.specs.Replays.{scene_row}
use Rattle.vt_pictures.specs.Evidence.{AreTrue}
use Rattle.vt_pictures.specs.NearestPixels.{served_by}
use Rattle.vt_blend.specs.declared.blends.Texels.{Texels}
use Rattle.vt_blend.specs.Corners.{corners_of, weights_of}
use Rattle.vt_blend.specs.Blends.{blended_word, texels_of, blend_of}
use Rattle.vt_plain_bilinear.specs.Served.{IsServed, IsBlended}
use Rattle.vt_plain_bilinear.specs.Shown.{serving_level, texel_under, blend_under}
use Rattle.vt_plain_bilinear.specs.Inside.{row_level_inside, pixel_corners_inside, covered}

-- a word that is served by what is true of a table is the source's
served_is_under : (source : Source) (s : Shape) (m : Table) (version : ℕ) (says : Note → Type 0) (k x y word : ℕ) → IsWithinLimits s
    → IsInside s k x y → AreTrue s source m version says → IsServed s version says k x y word → word ≡ texel_under source s m k x y
served_is_under source s m version says k x y word limits inside are served =
    let found = served.found in
    let j = found.level in
    let some : 1 ≤ s.tile = (let a = limits.least_tile in omega (arith, a)) in
    let page = texel_is_page s k x y some inside in
    let by = served_by s source m version says (texel_page s k x y) found limits page.inside served.finest are in
    let covers = covered s version says k x y found some inside served.finest in
    let level : serving_level s m (texel_page s k x y) ≡ j =
    ap (λ (o : Option ℕ). level_of s (unwrap_or o (root_of s))) by ∙ sym served.finest.level in
    are.words found.slot j (x / 2 ^ (j - k)) (y / 2 ^ (j - k)) word covers.inside
    (ap m covers.page ∙ are.mapped found.page found.slot served.finest.mapped) served.read
    ∙ ap (λ (i : ℕ). source i (x / 2 ^ (i - k)) (y / 2 ^ (i - k))) (sym level)

-- a pixel that was drawn by what is true of a table is that of the table
pub blend_is_under : (source : Source) (scene : Scene) (m : Table) (version i x y : ℕ) (says : Note → Type 0) (bytes : List ℕ)
    → IsWithinLimits scene.shape → AreTrue scene.shape source m version says
    → IsBlended scene.shape scene.depth version says (scene_row scene i y) x bytes → bytes ≡ blend_under source scene m i x y
unfolding blend_of
blend_is_under source scene m version i x y says bytes limits are drawn =
    let s = scene.shape in
    let row = scene_row scene i y in
    let k = row_level row in
    let c = corners_of row x in
    let level = row_level_inside s scene.path i y limits in
    let inside = pixel_corners_inside s scene.path i y x limits in
    let served = drawn.served in
    let t = drawn.texels in
    let first = served_is_under source s m version says k c.column c.line t.first limits (level, inside.column, inside.line) are served.first in
    let second = served_is_under source s m version says k c.next_column c.line t.second limits (level, inside.next_column, inside.line) are served.second in
    let third = served_is_under source s m version says k c.column c.next_line t.third limits (level, inside.column, inside.next_line) are served.third in
    let fourth =
    served_is_under source s m version says k c.next_column c.next_line t.fourth limits (level, inside.next_column, inside.next_line) are served.fourth in
    let same : t ≡ texels_of (texel_under source s m k) c = λ n. record { first = first n; second = second n; third = third n; fourth = fourth n } in
    drawn.shown ∙ ap (λ (u : Texels). word_bytes scene.depth (blended_word scene.depth (weights_of c) u)) same

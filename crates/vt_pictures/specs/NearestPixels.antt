-- A pixel that is one texel, by true notes: it is the source's texel of the page that serves it.
use Rattle.std.proofs.Common.{◌≡◌, ℕ, ◌+◌, ◌-◌, ◌/◌, ◌^◌, ◌<◌, ◌≤◌, List, Option, Some, sym, ap, ◌∙◌, arith}
use Rattle.std.specs.Prelude.{slice_get, unwrap_or}
use Rattle.std.proofs.lemmas.Option.{slice_get-get_or, same_Some}
use Rattle.vt_pages.specs.Depths.{word_bytes}
use Rattle.vt_draw.specs.Texels.{Source}
use Rattle.vt_journal.specs.Shape.{Shape}
use Rattle.vt_journal.specs.Pages.{pages_of, levels_of, level_of, ancestors_of, ancestor_of, root_of, texel_page, IsWithinLimits}
use Rattle.vt_journal.specs.PagesLookups.{lookup}
use Rattle.vt_journal.specs.Laws.{ReachesRoot, IsInside}
use Rattle.vt_pages.proofs.Lines.{reaches_root}
use Rattle.vt_draw.specs.Rows.{row_level, row_place}
use Rattle.vt_draw.specs.declared.lookups.Found.{Found}
use Rattle.vt_draw.specs.Lookups.{Note, IsFinestFound}
use Rattle.vt_draw.specs.Shots.{wanted_page, IsDrawn}
use Rattle.vt_draw.proofs.Places.{pixel_inside, place_inside, wanted_in_chain, wanted_line_covers}
use Rattle.vt_journal.specs.Changes.{Table}
use Rattle.vt_journal.specs.Lookups.{is_mapped, IsFirstMapped}
use Rattle.vt_journal.proofs.Finding.{finest-lookup}
use Rattle.vt_pictures.specs.Scenes.{Scene}
use Rattle.vt_pictures.specs.Replays.{scene_row, shown_at, serving_page, pixel_under}
use Rattle.vt_pictures.specs.Evidence.{AreTrue}

-- what was found for a page is the page that serves it
module _ (s : Shape) (source : Source) (m : Table) (version : ℕ) (says : Note → Type 0) (p : ℕ) (found : Found) (limits : IsWithinLimits s)
    (inside : p < pages_of s) (finest : IsFinestFound s version says p found) (are : AreTrue s source m version says) where
  line : ReachesRoot s p
  line = let a = limits.least_tile in reaches_root s p (omega (arith, a)) limits.least_width limits.least_height inside

  at_place : (k : ℕ) → level_of s p ≤ k → k < levels_of s → slice_get (ancestors_of s p) (k - level_of s p) ≡ Some (ancestor_of s p k)
  unfolding ancestor_of
  at_place k low high = slice_get-get_or (ancestors_of s p) (k - level_of s p) 0 (let e = line.one_a_level in omega (arith, e, low, high))

  first : IsFirstMapped m (ancestors_of s p) found.page
  first = record {
    place = found.level - level_of s p;
    stands = at_place found.level finest.no_finer finest.level_inside ∙ ap Some (sym finest.page);
    frame = found.slot;
    mapped = are.mapped found.page found.slot finest.mapped;
    before = λ k q below is.
        let low : level_of s p ≤ level_of s p + k = omega arith in
        let high : level_of s p + k < found.level = (let a = finest.no_finer in omega (arith, a, below)) in
        let top = finest.level_inside in
        let back : (level_of s p + k) - level_of s p ≡ k = omega arith in
        let there : Some q ≡ Some (ancestor_of s p (level_of s p + k)) =
        sym is ∙ ap (slice_get (ancestors_of s p)) (sym back) ∙ at_place (level_of s p + k) low (omega (arith, high, top)) in
        ap m (same_Some q (ancestor_of s p (level_of s p + k)) there)
        ∙ are.unmapped (ancestor_of s p (level_of s p + k)) (finest.unmapped (level_of s p + k) low high);
  }

  pub served_by : lookup s (is_mapped m) p ≡ Some found.page
  served_by = finest-lookup s m p found.page first

-- a pixel that was drawn by what is true of a table is that of the table
pub shown_is_under : (source : Source) (scene : Scene) (m : Table) (version i x y : ℕ) (says : Note → Type 0) (bytes : List ℕ)
    → IsWithinLimits scene.shape → AreTrue scene.shape source m version says
    → IsDrawn scene.shape scene.depth version says (scene_row scene i y) x bytes → bytes ≡ pixel_under source scene m i x y
shown_is_under source scene m version i x y says bytes limits are drawn =
    let s = scene.shape in
    let row = scene_row scene i y in
    let found = drawn.found in
    let j = found.level in
    let X = (row_place row x).0 in
    let Y = (row_place row x).1 in
    let pixel = pixel_inside s scene.path i y x limits in
    let chain = wanted_in_chain s scene.path i y x limits in
    let served = served_by s source m version says (wanted_page s row x) found limits chain.inside drawn.finest are in
    let no_finer = drawn.finest.no_finer in
    let low : row_level row ≤ j = (let e = chain.level in omega (arith, e, no_finer)) in
    let covers : found.page ≡ texel_page s j (X / 2 ^ j) (Y / 2 ^ j) = drawn.finest.page
    ∙ wanted_line_covers s scene.path i y x j limits low drawn.finest.level_inside in
    let inside : IsInside s j (X / 2 ^ j) (Y / 2 ^ j) = place_inside s j X Y drawn.finest.level_inside pixel.column pixel.line in
    let word : drawn.word ≡ source j (X / 2 ^ j) (Y / 2 ^ j) =
    are.words found.slot j (X / 2 ^ j) (Y / 2 ^ j) drawn.word inside
    (ap m (sym covers) ∙ are.mapped found.page found.slot drawn.finest.mapped) drawn.read in
    let level : level_of s (serving_page s m row x) ≡ j =
    ap (λ (o : Option ℕ). level_of s (unwrap_or o (root_of s))) served ∙ sym drawn.finest.level in
    drawn.shown ∙ ap (word_bytes scene.depth) word ∙ ap (shown_at scene.depth source row x) (sym level)

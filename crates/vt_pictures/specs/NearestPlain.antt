-- A pixel that is one texel, where its wanted page is mapped: it is that of the plain picture.
use Rattle.std.proofs.Common.{◌≡◌, ℕ, ◌*◌, ◌<◌, ◌≤◌, Bool, true, cond, ◌==◌, get_or, Option, Some, None, refl, ap, ◌∙◌, zero-add, arith}
use Rattle.std.specs.Prelude.{unwrap_or, IsSome}
use Rattle.std.specs.List.{range_with_len}
use Rattle.std.proofs.lemmas.Bool.{false≢true}
use Rattle.std.proofs.lemmas.Bool.Decides.{nat_tests}
use Rattle.std.proofs.lemmas.List.Sums.{get_or-le-sum_by}
use Rattle.std.proofs.lemmas.List.FromFn.{length-range_with_len, get_or-range_with_len}
use Rattle.std.proofs.lemmas.Option.{slice_get-get_or}
use Rattle.vt_draw.specs.Texels.{Source}
use Rattle.vt_journal.specs.Shape.{Shape}
use Rattle.vt_journal.specs.Pages.{pages_of, level_of, ancestors_of, root_of, IsWithinLimits}
use Rattle.vt_journal.specs.PagesLookups.{lookup}
use Rattle.vt_journal.specs.Laws.{ReachesRoot}
use Rattle.vt_pages.proofs.Lines.{reaches_root}
use Rattle.vt_pages.proofs.Parents.{level_below}
use Rattle.vt_draw.specs.Rows.{RowView}
use Rattle.vt_draw.specs.Shots.{shot_row, wanted_page, pixels_wanting, wants_in_rows}
use Rattle.vt_draw.proofs.Places.{wanted_in_chain}
use Rattle.vt_draw.proofs.Counts.{pixels-most}
use Rattle.vt_journal.specs.Changes.{Table}
use Rattle.vt_journal.specs.Lookups.{is_mapped, IsFirstMapped}
use Rattle.vt_journal.proofs.Finding.{finest-lookup}
use Rattle.vt_pictures.specs.Scenes.{Scene}
use Rattle.vt_pictures.specs.Replays.{scene_row, shown_at, pixel_under, plain_pixel}
use Rattle.vt_pictures.specs.FilterLaws.{picture_wants}

same_number : (p : ℕ) → (p == p) ≡ true
same_number p = grind (arith, nat_tests)

-- a pixel of a row wants its page
one_wants : (s : Shape) (row : RowView) (n x : ℕ) → x < n → 1 ≤ pixels_wanting s row n (wanted_page s row x)
unfolding pixels_wanting
one_wants s row n x inside =
    let p : ℕ = wanted_page s row x in
    let f : ℕ → ℕ = λ z. cond (wanted_page s row z == p) 1 0 in
    let most = get_or-le-sum_by f (range_with_len 0 n) x 0 (let e = length-range_with_len 0 n in omega (arith, e, inside)) in
    let here : f (get_or (range_with_len 0 n) x 0) ≡ 1 = ap f (get_or-range_with_len 0 n x 0 inside ∙ zero-add x)
    ∙ ap (λ (b : Bool). cond b 1 0) (same_number p) in
    omega (arith, most, here)

-- and so does the picture
wanted_once : (scene : Scene) (i x y : ℕ) → x < scene.path.width → y < scene.path.height
    → 1 ≤ picture_wants pixels_wanting scene i (wanted_page scene.shape (scene_row scene i y) x)
unfolding wants_in_rows
wanted_once scene i x y inside below =
    let p : ℕ = wanted_page scene.shape (scene_row scene i y) x in
    let f : ℕ → ℕ = λ z. pixels_wanting scene.shape (shot_row scene.shape scene.path i z) scene.path.width p in
    let most = get_or-le-sum_by f (range_with_len 0 scene.path.height) y 0 (let e = length-range_with_len 0 scene.path.height in omega (arith, e, below)) in
    let here : f (get_or (range_with_len 0 scene.path.height) y 0) ≡ f y = ap f (get_or-range_with_len 0 scene.path.height y 0 below ∙ zero-add y) in
    let one = one_wants scene.shape (scene_row scene i y) scene.path.width x inside in
    omega (arith, most, here, one)

-- a mapped page serves itself
pub serves_itself : (s : Shape) (m : Table) (p : ℕ) → IsWithinLimits s → p < pages_of s → IsSome (m p) → lookup s (is_mapped m) p ≡ Some p
serves_itself s m p limits inside some = by_frame (m p) refl some where
  line : ReachesRoot s p
  line = let a = limits.least_tile in reaches_root s p (omega (arith, a)) limits.least_width limits.least_height inside

  by_frame : (o : Option ℕ) → m p ≡ o → IsSome o → lookup s (is_mapped m) p ≡ Some p
  by_frame None is none = absurd (false≢true none)
  by_frame (Some frame) is one =
      let first : IsFirstMapped m (ancestors_of s p) p = record {
        place = 0;
        stands = slice_get-get_or (ancestors_of s p) 0 0 (let e = line.one_a_level in let low = level_below s p limits inside in omega (arith, e, low))
            ∙ ap Some line.begins;
        frame = frame;
        mapped = is;
        before = λ k q below. absurd (omega (arith, below));
      } in
      finest-lookup s m p p first

pub mapped_is_plain : (source : Source) (scene : Scene) (m : Table) (i x y : ℕ) → IsWithinLimits scene.shape
    → x < scene.path.width → y < scene.path.height
    → ((p : ℕ) → p < pages_of scene.shape → 1 ≤ picture_wants pixels_wanting scene i p → IsSome (m p))
    → pixel_under source scene m i x y ≡ plain_pixel source scene i x y
mapped_is_plain source scene m i x y limits inside below needed =
    let s = scene.shape in
    let row = scene_row scene i y in
    let p : ℕ = wanted_page s row x in
    let chain = wanted_in_chain s scene.path i y x limits in
    let mapped = needed p chain.inside (wanted_once scene i x y inside below) in
    let served = serves_itself s m p limits chain.inside mapped in
    ap (shown_at scene.depth source row x) (ap (λ (o : Option ℕ). level_of s (unwrap_or o (root_of s))) served ∙ chain.level)

-- so many pixels want at most one texel each
pub wants_one : (s : Shape) (row : RowView) (n p : ℕ) → pixels_wanting s row n p ≤ 4 * n
wants_one s row n p = omega (arith, pixels-most s row n p)

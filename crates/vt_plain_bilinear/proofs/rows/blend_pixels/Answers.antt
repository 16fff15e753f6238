use Rattle.std.proofs.Common.{◌≡◌, ℕ, ◌+◌, ◌<◌, subst, sym, ap, ◌∙◌, arith}
use Rattle.std.specs.Prelude.{slice_index}
use Rattle.vt_definitions.specs.Depths.{texel_bytes}
use Rattle.vt_camera.specs.Rows.{row_level}
use Rattle.vt_draw.proofs.Counts.{run-none}
use Rattle.vt_blend.specs.Corners.{corners_of}
use Rattle.vt_plain_bilinear.specs.Served.{pages_about, texels_wanting, IsMemo, AreCornersServed, IsBlended}
use Rattle.vt_blend.specs.Counting.{times_among}
use Rattle.vt_plain_bilinear.specs.BlendPlain.{wanting-none, wanting-more}
use Rattle.vt_plain_bilinear.proofs.Counts.{run_fits, last_fits}
use Rattle.vt_plain_bilinear.proofs.Kept.{goes_on}
use Rattle.vt_plain_bilinear.proofs.DrawnBlends.{blended_here, blended-more}
use Rattle.vt_plain_bilinear.proofs.rows.blend_pixels.Goals as goal

pub loop-x-init : goal.loop-x-init
loop-x-init g c = record {
  on = c.memo_of-memo.ensures.on;
  known = c.memo_of-memo.ensures.known;
  drawn = λ i none. absurd (omega (arith, none));
  inside = c.page_of_texel-page.ensures.inside;
  counted = λ p. omega (arith, run-none c.page_of_texel-page.result p, wanting-none c.args.geometry.now c.args.row p);
}

pub take_texels-page-requires-clause-room : goal.take_texels-page-requires-clause-room
take_texels-page-requires-clause-room g c = λ p below.
    run_fits c.args.geometry.now c.args.row c.loop-x.x c.args.columns c.loop-x.last c.loop-x.run p c.args.counts.now c.loop-x.counts
    (omega arith) (subst (λ (n : ℕ). p < n) c.loop-x.auto.counts below) c.loop-x.invariant.counted c.requires.room

pub loop-x-preserved : goal.loop-x-preserved
loop-x-preserved g c =
    let s = c.args.geometry.now in
    let d = g.row.DEPTH in
    let row = c.args.row in
    let x = c.loop-x.x in
    let v = g.K.Lookup.version c.args.lookup.now in
    let level = c.level-level.result in
    let at = c.corners_of-at-in-loop-x in
    let taken = c.take_texels-page in
    let later = g.K.Lookup.says taken.new.lookup in
    let version : g.K.Lookup.version c.loop-x.lookup ≡ v = c.loop-x.invariant.on.version in
    let M : ℕ → Type 0 = λ n. IsMemo s n later taken.new.memo in
    let S : ℕ → Type 0 = λ n. AreCornersServed s n later level at.result taken.result.0 in
    let here : IsBlended s d v later row x (texel_bytes d c.put_word.new.bytes x) =
    blended_here s d v later row x level c.blend_words.result at.result c.weights_of.result taken.result.0
    (texel_bytes d c.put_word.new.bytes x) c.level-level.ensures.value at.ensures.value (subst S version taken.ensures.served)
    c.weights_of.ensures.value c.blend_words.ensures c.put_word.ensures.written in
    record {
      on = goes_on c.loop-x.invariant.on taken.ensures.on;
      known = subst M version taken.ensures.known;
      drawn = blended-more s d v (g.K.Lookup.says c.loop-x.lookup) later row x c.loop-x.out c.put_word.new.bytes taken.ensures.on.said
          c.put_word.ensures.kept here c.loop-x.invariant.drawn;
      inside = taken.ensures.page;
      counted = λ p.
          let wants : times_among (pages_about s level at.result) p ≡ times_among (pages_about s (row_level row) (corners_of row x)) p =
          λ i. times_among (pages_about s (c.level-level.ensures.value i) (at.ensures.value i)) p in
          omega (arith, taken.ensures.counted p, c.loop-x.invariant.counted p, wanting-more s row x p, wants);
    }

pub add_texels-requires-clause-room : goal.add_texels-requires-clause-room
add_texels-requires-clause-room g c =
    last_fits c.args.geometry.now c.args.row c.loop-x.x c.args.columns c.loop-x.last c.loop-x.run c.args.counts.now c.loop-x.counts
    (omega arith) (subst (λ (n : ℕ). c.loop-x.last < n) (sym c.requires.pages) c.loop-x.invariant.inside) c.loop-x.invariant.counted
    c.requires.room

pub returns-clause-drawn : goal.returns-clause-drawn
returns-clause-drawn g c = λ i below.
    subst (λ (n : ℕ). IsBlended c.args.geometry.now g.row.DEPTH n (g.K.Lookup.says c.loop-x.lookup) c.args.row i (texel_bytes g.row.DEPTH c.loop-x.out i))
    (sym c.loop-x.invariant.on.version) (c.loop-x.invariant.drawn i (omega (arith, below)))

pub returns-clause-counted : goal.returns-clause-counted
returns-clause-counted g c = λ p inside.
    let all : c.loop-x.x ≡ c.args.columns = omega arith in
    let wanting = ap (λ (n : ℕ). texels_wanting c.args.geometry.now c.args.row n p) all in
    c.add_texels.ensures.added p ∙ c.loop-x.invariant.counted p ∙ ap (λ (n : ℕ). slice_index c.args.counts.now p + n) wanting

use Rattle.std.proofs.Common.{◌≡◌, ℕ, ◌+◌, ◌*◌, ◌≤◌, subst, sym, ap, arith}
use Rattle.std.proofs.Math.Nat.{mul-le-mul_left}
use Rattle.vt_definitions.specs.Depths.{texel_bytes, texel_length}
use Rattle.vt_definitions.specs.Sides.{side}
use Rattle.vt_plain_bilinear.specs.Served.{IsMemo, AreCornersServed}
use Rattle.vt_plain_bilinear.proofs.Kept.{goes_on}
use Rattle.vt_texel_runs.specs.Blends.{span_corners, IsBlendAt}
use Rattle.vt_texel_runs.proofs.Blending.{column_inside, corners_are_along, page_along, blend_here, blends_more}
use Rattle.vt_texel_runs.proofs.Spanning.{wanted_more}
use Rattle.vt_texel_runs.proofs.blends.blend_each.Goals as goal

pub corners_along-first-requires-clause-level : goal.corners_along-first-requires-clause-level
corners_along-first-requires-clause-level g c = omega (arith, (c.requires.inside 0 (omega arith)).level, c.requires.limits.most_levels)

pub corners_along-first-requires-clause-column : goal.corners_along-first-requires-clause-column
corners_along-first-requires-clause-column g c =
    column_inside c.args.geometry.now.width c.level_size-wide.result.0 c.args.span.x c.args.span.step_x 0 c.args.span.level
    (ap (λ (z : ℕ × ℕ). z.0) c.level_size-wide.ensures.size) (c.requires.inside 0 (omega arith)).column

pub corners_along-first-requires-clause-line : goal.corners_along-first-requires-clause-line
corners_along-first-requires-clause-line g c =
    column_inside c.args.geometry.now.height c.level_size-wide.result.1 c.args.span.y c.args.span.step_y 0 c.args.span.level
    (ap (λ (z : ℕ × ℕ). z.1) c.level_size-wide.ensures.size) (c.requires.inside 0 (omega arith)).row

pub loop-i-init : goal.loop-i-init
loop-i-init g c = record {
  on = c.memo_of-memo.ensures.on;
  known = c.memo_of-memo.ensures.known;
  answered = λ i none. absurd (omega (arith, none));
  listed = λ i none. absurd (omega (arith, none));
}

pub corners_along-at-requires-clause-level : goal.corners_along-at-requires-clause-level
corners_along-at-requires-clause-level g c = omega (arith, (c.requires.inside 0 (omega arith)).level, c.requires.limits.most_levels)

pub corners_along-at-requires-clause-column : goal.corners_along-at-requires-clause-column
corners_along-at-requires-clause-column g c =
    column_inside c.args.geometry.now.width c.level_size-wide.result.0 c.args.span.x c.args.span.step_x c.loop-i.i c.args.span.level
    (ap (λ (z : ℕ × ℕ). z.0) c.level_size-wide.ensures.size) (c.requires.inside c.loop-i.i (omega arith)).column

pub corners_along-at-requires-clause-line : goal.corners_along-at-requires-clause-line
corners_along-at-requires-clause-line g c =
    column_inside c.args.geometry.now.height c.level_size-wide.result.1 c.args.span.y c.args.span.step_y c.loop-i.i c.args.span.level
    (ap (λ (z : ℕ × ℕ). z.1) c.level_size-wide.ensures.size) (c.requires.inside c.loop-i.i (omega arith)).row

pub loop-i-preserved : goal.loop-i-preserved
loop-i-preserved g c =
    let s = c.args.geometry.now in
    let d = g.row.DEPTH in
    let r = c.args.span in
    let x = c.loop-i.i in
    let v = g.K.Lookup.version c.args.lookup.now in
    let at = c.corners_along-at in
    let about = c.words_about-wanted in
    let later = g.K.Lookup.says about.new.lookup in
    let wide : c.level_size-wide.result.0 ≡ side s.width r.level = ap (λ (z : ℕ × ℕ). z.0) c.level_size-wide.ensures.size in
    let high : c.level_size-wide.result.1 ≡ side s.height r.level = ap (λ (z : ℕ × ℕ). z.1) c.level_size-wide.ensures.size in
    let corners : at.result ≡ span_corners s r x =
    corners_are_along s r x c.level_size-wide.result.0 c.level_size-wide.result.1 at.result wide high at.ensures.value in
    let version : g.K.Lookup.version c.loop-i.lookup ≡ v = c.loop-i.invariant.on.version in
    let M : ℕ → Type 0 = λ n. IsMemo s n later about.new.memo in
    let S : ℕ → Type 0 = λ n. AreCornersServed s n later r.level at.result about.result.0 in
    let here : IsBlendAt s d v later r.level (span_corners s r x) (texel_bytes d c.put_word.new.bytes x) =
    blend_here s d v later r.level c.blend_words.result at.result (span_corners s r x) c.weights_of.result about.result.0
    (texel_bytes d c.put_word.new.bytes x) corners (subst S version about.ensures.served) c.weights_of.ensures.value c.blend_words.ensures
    c.put_word.ensures.written in
    record {
      on = goes_on c.loop-i.invariant.on about.ensures.on;
      known = subst M version about.ensures.known;
      answered = blends_more s d v (g.K.Lookup.says c.loop-i.lookup) later r x c.loop-i.out c.put_word.new.bytes about.ensures.on.said
          c.put_word.ensures.kept here c.loop-i.invariant.answered;
      listed = wanted_more s r x about.result.1 c.loop-i.pages (omega (arith, c.loop-i.auto.pages, c.requires.pages))
          (page_along s r x about.result.1 at.result about.ensures.page corners) c.loop-i.invariant.listed;
    }

pub put_word-requires-clause-room : goal.put_word-requires-clause-room
put_word-requires-clause-room g c =
    let z : ℕ = texel_length g.row.DEPTH in
    let room : z * (c.loop-i.i + 1) ≤ z * c.args.span.count = mul-le-mul_left z (omega arith) in
    omega (arith, room, c.loop-i.auto.out, c.requires.bytes)

pub returns-clause-answered : goal.returns-clause-answered
returns-clause-answered g c = λ i below.
    subst (λ (n : ℕ). IsBlendAt c.args.geometry.now g.row.DEPTH n (g.K.Lookup.says c.loop-i.lookup) c.args.span.level
    (span_corners c.args.geometry.now c.args.span i) (texel_bytes g.row.DEPTH c.loop-i.out i))
    (sym c.loop-i.invariant.on.version) (c.loop-i.invariant.answered i (omega (arith, below)))

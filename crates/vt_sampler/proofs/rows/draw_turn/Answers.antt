use Rattle.std.proofs.Common.{◌≡◌, ℕ, ◌+◌, ◌*◌, ◌/◌, ◌%◌, ◌≤◌, List, [], ◌∷◌, ◌++◌, ◌∙◌, ap, sym, refl, length, arith, rules}
use Rattle.std.proofs.lemmas.Nat.{mul-le}
use Rattle.vt_lookup.specs.Shots.{shot_row, AreDrawn, pixels_wanting, pixels_in_rows}
use Rattle.vt_lookup.proofs.Counts.{pixels-most}
use Rattle.vt_sampler.specs.Notes.{IsTrueOf}
use Rattle.vt_definitions.specs.Dealing.{own_count}
use Rattle.vt_sampler.specs.Samplers.{own_rows, row_length}
use Rattle.vt_definitions.proofs.Dealt.{sampler_is, turn_is, dealt_inside, count_most}
use Rattle.vt_sampler.proofs.Sharing.{own_room, own_rows-next, own_most, wants-push}
use Rattle.vt_sampler.proofs.Drawing.{rows_after}
use Rattle.vt_sampler.proofs.rows.draw_turn.Goals as goal

pub dealt_row-y-requires-clause-turn : goal.dealt_row-y-requires-clause-turn
dealt_row-y-requires-clause-turn c =
    let d = c.requires.drew in
    omega (arith, c.requires.left, d.high, count_most c.args.turns.now.sampler c.args.turns.now.samplers c.args.turns.now.shot.now.path.now.height d.one_of)

pub slice_bounds-row-end : goal.slice_bounds-row-end
slice_bounds-row-end c =
    let t = c.args.turns.now in
    let d = c.requires.drew in
    let n : ℕ = t.samplers in
    let k : ℕ = t.sampler in
    let y : ℕ = c.dealt_row-y.result in
    let own_y : y % n ≡ k = ap (λ m. m % n) c.dealt_row-y.ensures ∙ sampler_is k c.args.turn n d.one_of in
    let turn_y : y / n ≡ c.args.turn = ap (λ m. m / n) c.dealt_row-y.ensures ∙ turn_is k c.args.turn n d.one_of in
    let inside = dealt_inside k c.args.turn n _ _ _ y d.one_of refl refl c.requires.left c.dealt_row-y.ensures in
    own_room k n t.shot.now.path.now.height t.line y (c.args.turn * t.line) (length c.args.bytes.now) d.one_of inside own_y
    (ap (λ i. i * t.line) (sym turn_y)) (d.room ∙ ap (λ l. own_count k n t.shot.now.path.now.height * l) (sym d.line_is))

pub draw_one_row-requires-clause-within : goal.draw_one_row-requires-clause-within
draw_one_row-requires-clause-within c =
    dealt_inside c.args.turns.now.sampler c.args.turn c.args.turns.now.samplers _ _ _ _ c.requires.drew.one_of refl refl c.requires.left c.dealt_row-y.ensures

pub draw_one_row-requires-clause-room : goal.draw_one_row-requires-clause-room
draw_one_row-requires-clause-room c p small =
    let t = c.args.turns.now in
    let d = c.requires.drew in
    let s = t.shot.now.geometry.now in
    let path = t.shot.now.path.now in
    let picture = t.shot.now.picture in
    let y : ℕ = c.args.turn * t.samplers + t.sampler in
    let most = own_most pixels_wanting s path picture p path.width (λ z. pixels-most s (shot_row s path picture z) path.width p) t.sampler t.samplers y in
    let inside = dealt_inside t.sampler c.args.turn t.samplers _ _ _ y d.one_of refl refl c.requires.left refl in
    let low : y ≤ 2048 = omega (arith, inside, d.high) in
    let wide : path.width ≤ 2048 = d.wide in
    omega (arith, most, wide, d.counted p small, mul-le y path.width 2048 2048 low wide)

pub returns : goal.returns
returns c =
    let t = c.args.turns.now in
    let d = c.requires.drew in
    let s = t.shot.now.geometry.now in
    let path = t.shot.now.path.now in
    let picture = t.shot.now.picture in
    let n : ℕ = t.samplers in
    let k : ℕ = t.sampler in
    let turn : ℕ = c.args.turn in
    let line : ℕ = row_length t.shot.now.depth path.width in
    let y : ℕ = c.dealt_row-y.result in
    let y_is : y ≡ turn * n + k = c.dealt_row-y.ensures in
    let own_y : y % n ≡ k = ap (λ m. m % n) y_is ∙ sampler_is k turn n d.one_of in
    let turn_y : y / n ≡ turn = ap (λ m. m / n) y_is ∙ turn_is k turn n d.one_of in
    let inside = dealt_inside k turn n _ _ _ y d.one_of refl refl c.requires.left y_is in
    let on : (turn + 1) * n + k ≡ y + n = omega (arith, y_is) in
    let next : own_rows k n ((turn + 1) * n + k) ≡ own_rows k n (turn * n + k) ++ y ∷ [] =
    ap (own_rows k n) on ∙ own_rows-next k n y (let one = d.one_of in omega (arith, one)) own_y ∙ ap (λ m. own_rows k n m ++ y ∷ []) y_is in
    let e = c.draw_one_row.ensures in
    let out : List ℕ = c.draw_one_row.new.out in
    let P : ℕ → List ℕ → Type 0 = λ z row.
    AreDrawn s t.shot.now.depth (length t.table.now.changes) (IsTrueOf t.table.now) (shot_row s path picture z) path.width row in
    let place : turn * t.line ≡ y / n * line = λ i. sym turn_y i * d.line_is i in
    let full : length out ≡ line = search rules in
    let room : turn * t.line + line ≤ length c.args.bytes.now =
    own_room k n path.height line y (turn * t.line) (length c.args.bytes.now) d.one_of inside own_y place d.room in
    record {
      shape_is = d.shape_is;
      root = d.root;
      one_of = d.one_of;
      few = d.few;
      depth_is = d.depth_is;
      picture_is = d.picture_is;
      wide = d.wide;
      high = d.high;
      line_is = d.line_is;
      room = search rules;
      pages = c.draw_one_row.auto.counts ∙ d.pages;
      drawn = λ z below own.
          rows_after P n line (turn * t.line) _ y c.args.bytes.now out place room full e.drawn
          (λ i less same. d.drawn i (omega (arith, less, y_is)) (same ∙ own_y)) z (omega (arith, below, on)) (own ∙ sym own_y);
      counted = λ p small.
          e.counted p small
          ∙ ap (λ i. i + pixels_wanting s (shot_row s path picture y) path.width p)
          (d.counted p (let l = c.draw_one_row.auto.counts in omega (arith, l, small)))
          ∙ sym (ap (λ (rows : List ℕ). pixels_in_rows s path picture rows p) next
          ∙ wants-push pixels_wanting s path picture p y (own_rows k n (turn * n + k)));
    }

use Rattle.std.proofs.Common.{◌≡◌, ℕ, ◌+◌, ◌*◌, ◌/◌, ◌%◌, ◌≤◌, ◌<◌, List, [], ◌∷◌, ◌++◌, ◌∙◌, ap, sym, subst, refl, length, take, reverse, arith, rules}
use Rattle.std.specs.Prelude.{slice_index, slice_set}
use Rattle.std.proofs.lemmas.Nat.{mul-le}
use Rattle.std.proofs.lemmas.List.{take_more_set, reverse-append}
use Rattle.vt_lookup.specs.Lookups.{Note}
use Rattle.vt_lookup.specs.Evidence.{AreShown}
use Rattle.vt_lookup.proofs.Handed.{shown_by_more}
use Rattle.vt_lookup.specs.Shots.{shot_row, wants_in_rows}
use Rattle.vt_lookup.specs.GraceTypes.views.PassView.{PassView}
use Rattle.vt_lookup.specs.Notes.{IsNotedIn, HasHeldMore}
use Rattle.vt_sampler.specs.Held.{WasHeld}
use Rattle.vt_definitions.specs.Dealing.{own_count}
use Rattle.vt_sampler.specs.Samplers.{own_rows, row_in, row_length}
use Rattle.vt_definitions.proofs.Dealt.{sampler_is, turn_is, dealt_inside, count_most}
use Rattle.vt_sampler.proofs.Sharing.{own_room, own_rows-next, own_most, wants-push}
use Rattle.vt_sampler.proofs.Drawing.{rows_after}
use Rattle.vt_sampler.proofs.Holding.{version_here, held_then, was_held_then, was_held_now, not_above, version_before, versions_after, rising_after}
use Rattle.vt_sampler.proofs.held_rows.draw_turn.Goals as goal

pub dealt_row-y-requires-clause-turn : goal.dealt_row-y-requires-clause-turn
dealt_row-y-requires-clause-turn g c =
    let m = c.requires.may in
    omega (arith, c.requires.left, m.high, count_most c.args.turns.now.sampler c.args.turns.now.samplers c.args.turns.now.shot.now.path.now.height m.one_of)

pub slice_bounds-row-end : goal.slice_bounds-row-end
slice_bounds-row-end g c =
    let t = c.args.turns.now in
    let m = c.requires.may in
    let n : ℕ = t.samplers in
    let k : ℕ = t.sampler in
    let y : ℕ = c.dealt_row-y.result in
    let own_y : y % n ≡ k = ap (λ m. m % n) c.dealt_row-y.ensures ∙ sampler_is k c.args.turn n m.one_of in
    let turn_y : y / n ≡ c.args.turn = ap (λ m. m / n) c.dealt_row-y.ensures ∙ turn_is k c.args.turn n m.one_of in
    let inside = dealt_inside k c.args.turn n _ _ _ y m.one_of refl refl c.requires.left c.dealt_row-y.ensures in
    own_room k n t.shot.now.path.now.height t.line y (c.args.turn * t.line) (length c.args.bytes.now) m.one_of inside own_y
    (ap (λ i. i * t.line) (sym turn_y)) (m.room ∙ ap (λ l. own_count k n t.shot.now.path.now.height * l) (sym m.line_is))

pub draw_held-next-requires-clause-within : goal.draw_held-next-requires-clause-within
draw_held-next-requires-clause-within g c =
    dealt_inside c.args.turns.now.sampler c.args.turn c.args.turns.now.samplers _ _ _ _ c.requires.may.one_of refl refl c.requires.left c.dealt_row-y.ensures

pub draw_held-next-requires-clause-room : goal.draw_held-next-requires-clause-room
draw_held-next-requires-clause-room g c p small =
    let t = c.args.turns.now in
    let m = c.requires.may in
    let s = t.shot.now.geometry.now in
    let path = t.shot.now.path.now in
    let picture = t.shot.now.picture in
    let wants = g.P.Filter.wants in
    let few : (z : ℕ) → wants s (shot_row s path picture z) path.width p ≤ 4 * path.width = λ z.
    g.met.P.Filter.wants_few s (shot_row s path picture z) path.width p in
    let y : ℕ = c.args.turn * t.samplers + t.sampler in
    let most = own_most wants s path picture p (4 * path.width) few t.sampler t.samplers y in
    let inside = dealt_inside t.sampler c.args.turn t.samplers _ _ _ y m.one_of refl refl c.requires.left refl in
    let low : y ≤ 2048 = omega (arith, inside, m.high) in
    let wide : path.width ≤ 2048 = m.wide in
    omega (arith, most, wide, m.counted p small, mul-le y (4 * path.width) 2048 8192 low (omega (arith, wide)))

pub returns-clause-may : goal.returns-clause-may
returns-clause-may g c =
    let t = c.args.turns.now in
    let m = c.requires.may in
    let s = t.shot.now.geometry.now in
    let path = t.shot.now.path.now in
    let picture = t.shot.now.picture in
    let n : ℕ = t.samplers in
    let k : ℕ = t.sampler in
    let wants = g.P.Filter.wants in
    let y : ℕ = c.dealt_row-y.result in
    let y_is : y ≡ c.args.turn * n + k = c.dealt_row-y.ensures in
    let own_y : y % n ≡ k = ap (λ m. m % n) y_is ∙ sampler_is k c.args.turn n m.one_of in
    let on : (c.args.turn + 1) * n + k ≡ y + n = omega (arith, y_is) in
    let next : own_rows k n ((c.args.turn + 1) * n + k) ≡ own_rows k n (c.args.turn * n + k) ++ y ∷ [] =
    ap (own_rows k n) on ∙ own_rows-next k n y (let one = m.one_of in omega (arith, one)) own_y ∙ ap (λ m. own_rows k n m ++ y ∷ []) y_is in
    let e = c.draw_held-next.ensures in
    record {
      of = e.of;
      fits = m.fits;
      rooted = ap (λ (v : PassView). v.rooted) e.more.rest ∙ m.rooted;
      own = ap (λ (v : PassView). v.sampler) e.more.rest ∙ m.own;
      one_of = m.one_of;
      few = m.few;
      depth_is = m.depth_is;
      picture_is = m.picture_is;
      wide = m.wide;
      high = m.high;
      line_is = m.line_is;
      rows = search rules;
      room = search rules;
      pages = c.draw_held-next.auto.counts ∙ m.pages;
      counted = λ p small.
          e.counted p small
          ∙ ap (λ i. i + wants s (shot_row s path picture y) path.width p) (m.counted p (let l = c.draw_held-next.auto.counts in omega (arith, l, small)))
          ∙ sym (ap (λ (rows : List ℕ). wants_in_rows wants s path picture rows p) next ∙ wants-push wants s path picture p y (own_rows k n (c.args.turn * n + k)));
    }

pub returns-clause-held : goal.returns-clause-held
returns-clause-held g c first so =
    let t = c.args.turns.now in
    let m = c.requires.may in
    let s = t.shot.now.geometry.now in
    let path = t.shot.now.path.now in
    let n : ℕ = t.samplers in
    let k : ℕ = t.sampler in
    let turn : ℕ = c.args.turn in
    let line : ℕ = row_length t.shot.now.depth path.width in
    let y : ℕ = c.dealt_row-y.result in
    let y_is : y ≡ turn * n + k = c.dealt_row-y.ensures in
    let own_y : y % n ≡ k = ap (λ m. m % n) y_is ∙ sampler_is k turn n m.one_of in
    let turn_y : y / n ≡ turn = ap (λ m. m / n) y_is ∙ turn_is k turn n m.one_of in
    let inside = dealt_inside k turn n _ _ _ y m.one_of refl refl c.requires.left y_is in
    let e = c.draw_held-next.ensures in
    let old : PassView = c.args.pass.view in
    let new : PassView = c.draw_held-next.result.0.view in
    let v : ℕ = c.draw_held-next.result.1 in
    let out : List ℕ = c.draw_held-next.new.out in
    let olds : List ℕ = c.args.versions.now in
    let fits : turn < length olds = (let a = c.requires.left in let b = m.rows in omega (arith, a, b)) in
    let versions : List ℕ = slice_set olds turn v in
    let D : ℕ → (Note → Type 0) → ℕ → List ℕ → Type 0 = λ u says z row.
    AreShown g.P.Filter.shown s t.shot.now.depth u says (shot_row s path t.shot.now.picture z) path.width row in
    let P : ℕ → List ℕ → Type 0 = λ z row. D (slice_index versions (z / n)) (IsNotedIn new) z row in
    let place : turn * t.line ≡ y / n * line = λ i. sym turn_y i * m.line_is i in
    let full : length out ≡ line = search rules in
    let room : turn * t.line + line ≤ length c.args.bytes.now =
    own_room k n path.height line y (turn * t.line) (length c.args.bytes.now) m.one_of inside own_y place m.room in
    let here : P y out = subst (λ (u : ℕ). D u (IsNotedIn new) y out) (sym (version_here n y turn y v olds turn_y fits refl)) e.drawn in
    let before : (z : ℕ) → z < y → z % n ≡ y % n → P z (row_in n line c.args.bytes.now z) =
    λ z less same.
    shown_by_more g.P.Filter.shown s t.shot.now.depth (slice_index versions (z / n)) path.width
    (IsNotedIn old) (IsNotedIn new) (shot_row s path t.shot.now.picture z) (row_in n line c.args.bytes.now z) e.more.notes
    (subst (λ (u : ℕ). D u (IsNotedIn old) z (row_in n line c.args.bytes.now z))
    (sym (version_before n y turn z v olds turn_y same less)) (so.drawn z (omega (arith, less, y_is)) (same ∙ own_y))) in
    let so_far : List ℕ = reverse (take turn olds) in
    let one_more : reverse (take (turn + 1) versions) ≡ v ∷ so_far =
    ap reverse (take_more_set olds turn v fits) ∙ reverse-append (take turn olds) (v ∷ []) in
    let on : (turn + 1) * n + k ≡ y + n = omega (arith, y_is) in
    record {
      holds = subst (λ (us : List ℕ). HasHeldMore first new us) (sym one_more) (held_then first old new so_far v so.holds e.more);
      drawn = λ z below own.
          rows_after P n line (turn * t.line) _ y c.args.bytes.now out place room full here before z (omega (arith, below, on)) (own ∙ sym own_y);
      held = λ z below own.
          versions_after (λ (i : ℕ) (u : ℕ). WasHeld first new u) n y turn v olds turn_y fits
          (was_held_now first old new so_far v so.holds e.more e.given e.later)
          (λ i less same. was_held_then first old new _ v e.more (so.held i (omega (arith, less, y_is)) (same ∙ own_y)))
          z (omega (arith, below, on)) (own ∙ sym own_y);
      rising = λ x z below own_x own_z low.
          rising_after n y turn v olds turn_y fits
          (λ i less same. not_above first old _ v e.later (so.held i (omega (arith, less, y_is)) (same ∙ own_y)))
          (λ i j less own_i own_j. so.rising i j (omega (arith, less, y_is)) (own_i ∙ own_y) (own_j ∙ own_y))
          x z (omega (arith, below, on)) (own_x ∙ sym own_y) (own_z ∙ sym own_y) low;
    }

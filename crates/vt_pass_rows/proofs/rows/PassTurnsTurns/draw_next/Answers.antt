use Rattle.std.proofs.Common.{◌≡◌, ℕ, ◌+◌, ◌*◌, ◌<◌, ◌≤◌, List, [], ◌∷◌, ◌++◌, length, reverse, sym, ap, ◌∙◌, subst, arith}
use Rattle.std.specs.Prelude.{All, ◌^◌, slice_index}
use Rattle.std.proofs.lemmas.Nat.{mul-le}
use Rattle.std.proofs.lemmas.List.{length_push, with_items_is}
use Rattle.vt_page_table.specs.Shots.{shot_row, wants_in_rows}
use Rattle.vt_schedules.proofs.Sharing.{wants-push}
use Rattle.vt_schedules.specs.declared.bag.RowJob.{RowJob}
use Rattle.vt_schedules.specs.SharedRows.{FitsRow, VersionsRise, rows_of, versions_of}
use Rattle.vt_schedules.proofs.Taken.{rows_push}
use Rattle.vt_schedules.proofs.Keepers.{rows_number, versions_push}
use Rattle.vt_pass_rows.specs.DrawnRows.{IsDrawnRow}
use Rattle.vt_pass_rows.proofs.Keeping.{wants_most, kept_more, versions_more}
use Rattle.vt_pass_rows.proofs.rows.PassTurnsTurns.draw_next.Goals as goal

pub draw_job-drawn-requires-clause-inside : goal.draw_job-drawn-requires-clause-inside
draw_job-drawn-requires-clause-inside g c = subst (λ (n : ℕ). c.in-Some.job.row < n) c.requires.drew.1.height_is c.in-Some.ensures.fits.inside

pub draw_job-drawn-requires-clause-full : goal.draw_job-drawn-requires-clause-full
draw_job-drawn-requires-clause-full g c = c.in-Some.ensures.fits.full ∙ c.requires.drew.1.line_is

pub draw_job-drawn-requires-clause-room : goal.draw_job-drawn-requires-clause-room
draw_job-drawn-requires-clause-room g c =
    let t = c.args.self.now in
    let d = c.requires.drew.1 in
    let s = t.shot.now.geometry.now in
    let path = t.shot.now.path.now in
    let picture = t.shot.now.picture in
    let wants = g.P.Filter.wants in
    let kept = c.args.state.now.kept.elements in
    subst (λ (xs : List ℕ). (p : ℕ) → p < length xs → slice_index xs p + 4 * path.width < 2 ^ 32) (sym c.as_mut_slice.ensures.value)
    (λ p inside.
    let few : (z : ℕ) → wants s (shot_row s path picture z) path.width p ≤ 4 * path.width = λ z.
    g.met.P.Filter.wants_few s (shot_row s path picture z) path.width p in
    let most = wants_most wants s path picture p (4 * path.width) few (rows_of kept) in
    let high : path.height ≤ 2048 = d.sides.height_high in
    let wide : path.width ≤ 2048 = d.sides.width_high in
    let low : length (rows_of kept) ≤ 2048 = (let a = rows_number kept in let b = d.kept in let left = c.requires.left in omega (arith, a, b, left, high, d.height_is)) in
    omega (arith, most, wide, d.counted p inside, mul-le (length (rows_of kept)) (4 * path.width) 2048 8192 low (omega (arith, wide))))

pub returns-clause-drew : goal.returns-clause-drew
returns-clause-drew g c is a i =
    let t = c.args.self.now in
    let s = t.shot.now.geometry.now in
    let d = t.shot.now.depth in
    let path = t.shot.now.path.now in
    let picture = t.shot.now.picture in
    let table = g.T.PageTable in
    let laws = g.met.T.PageTable in
    let first = a.reader in
    let q = c.args.state.now.reader in
    let r = c.draw_job-drawn.new.reader in
    let kept = c.args.state.now.kept.elements in
    let taken = c.in-Some.job in
    let e = c.draw_job-drawn.ensures in
    let now = c.draw_job-drawn.result in
    let versions = reverse (versions_of kept) in
    let fits : FitsRow t.height t.line now = record {
      inside = (let a = e.row in let b = c.in-Some.ensures.fits.inside in omega (arith, a, b));
      full = e.full ∙ c.in-Some.ensures.fits.full;
    } in
    let all : c.push.new.self.elements ≡ kept ++ now ∷ [] = c.push.ensures.elements in
    let counts = with_items_is c.args.state.now.counts c.draw_job-drawn.new.counts (c.draw_job-drawn.auto.counts ∙ c.as_mut_slice.ensures.len) in
    let number : length c.draw_job-drawn.new.counts ≡ length c.args.state.now.counts.items =
    c.draw_job-drawn.auto.counts ∙ ap length c.as_mut_slice.ensures.value in
    let Before : List ℕ → Type 0 = λ xs. (p : ℕ) → p < length xs → slice_index xs p ≡ wants_in_rows g.P.Filter.wants s path picture (rows_of kept) p in
    let before = subst Before (sym c.as_mut_slice.ensures.value) i.counted in
    let rows : rows_of kept ++ taken.row ∷ [] ≡ rows_of c.push.new.self.elements =
    ap (λ (y : ℕ). rows_of kept ++ y ∷ []) (sym e.row) ∙ sym (rows_push kept now) ∙ ap rows_of (sym all) in
    let one_more : length c.push.new.self.elements ≡ length kept + 1 = ap length all ∙ length_push kept now in
    record {
      height_is = i.height_is;
      line_is = i.line_is;
      sides = i.sides;
      depth_is = i.depth_is;
      picture_is = i.picture_is;
      number = i.number;
      may = e.may;
      of = c.in-Some.ensures.of;
      start = laws.same_start q r now.version e.drew ∙ i.start;
      drew = subst (table.drew_rows first r) (sym (versions_push kept now) ∙ ap (λ (l : List RowJob). reverse (versions_of l)) (sym all))
          (laws.rows_more first q r versions now.version i.drew e.drew);
      took = subst (g.S.Schedule.took t.height t.line a.own c.next.new.own) rows (c.in-Some.ensures.some a.own (rows_of kept) i.took);
      drawn = subst (All (IsDrawnRow table g.P.Filter s d path picture t.height t.line a.number first r)) (sym all)
          (kept_more table g.P.Filter s d path picture t.height t.line a.number first q r versions laws.drew_now laws.drew_then laws.rises
          laws.since laws.says_more i.drew i.start kept now e.drew i.drawn fits (e.by ∙ i.number) e.drawn);
      rising = subst VersionsRise (sym all)
          (versions_more table g.P.Filter s d path picture t.height t.line a.number first q r versions laws.drew_now laws.drew_then laws.rises
          laws.since laws.says_more i.drew i.start kept now e.drew i.drawn i.rising);
      same = ap length counts ∙ number ∙ i.same;
      pages = ap length counts ∙ number ∙ i.pages;
      counted = subst (λ (xs : List ℕ). (p : ℕ) → p < length xs → slice_index xs p
          ≡ wants_in_rows g.P.Filter.wants s path picture (rows_of c.push.new.self.elements) p) (sym counts)
          (λ p inside.
          e.counted p inside
          ∙ ap (λ m. m + g.P.Filter.wants s (shot_row s path picture taken.row) path.width p)
          (before p (let n = c.draw_job-drawn.auto.counts in omega (arith, n, inside)))
          ∙ sym (wants-push g.P.Filter.wants s path picture p taken.row (rows_of kept))
          ∙ ap (λ (l : List ℕ). wants_in_rows g.P.Filter.wants s path picture l p) rows);
      spare = (let a = i.spare in let b = c.push.ensures.spare in omega (arith, a, b));
      kept = (let a = i.kept in omega (arith, a, one_more));
      enough = (let a = i.kept in let b = rows_number c.push.new.self.elements in omega (arith, a, b, one_more));
    }

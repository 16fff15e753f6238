use Rattle.std.proofs.Common.{◌≡◌, ℕ, ◌<◌, List, length, reverse, refl, sym, ap, ◌∙◌, subst, arith}
use Rattle.std.specs.Prelude.{All, slice_index}
use Rattle.std.proofs.lemmas.List.{with_items_is}
use Rattle.std.proofs.lemmas.List.Elements.{All-nil}
use Rattle.vt_page_table.specs.Shots.{wants_in_rows}
use Rattle.vt_schedules.proofs.Sharing.{wants-none}
use Rattle.vt_schedules.specs.declared.bag.RowJob.{RowJob}
use Rattle.vt_schedules.specs.SharedRows.{rows_of, versions_of}
use Rattle.vt_pass_rows.specs.DrawnRows.{IsDrawnRow}
use Rattle.vt_pass_rows.proofs.sampler.PassSampler.draw.Goals as goal

pub draw_all-requires-clause-none : goal.draw_all-requires-clause-none
draw_all-requires-clause-none g c =
    let a = c.args.self.now in
    let s = c.args.shot.now.geometry.now in
    let d = c.args.shot.now.depth in
    let path = c.args.shot.now.path.now in
    let picture = c.args.shot.now.picture in
    let size = c.size_of-height.ensures in
    let height = c.size_of-height.result.0 in
    let line = c.size_of-height.result.1 in
    let first = c.enter.new.reader in
    let may = c.enter.ensures.may s c.requires.opened in
    let own = a.own in
    let none = c.requires.none in
    let cleared = with_items_is a.counts c.clear.new.counts (c.clear.auto.counts ∙ c.as_mut_slice.ensures.len) in
    let pages = ap length cleared ∙ c.clear.auto.counts ∙ ap length c.as_mut_slice.ensures.value ∙ c.requires.pages in
    let of = subst (λ (z : ℕ × ℕ). g.S.Schedule.is_of c.args.rows.now z.0 z.1 own) (λ j. (sym size.height j, sym size.line j)) c.requires.of in
    let Row = IsDrawnRow g.T.PageTable g.P.Filter s d path picture height line a.number first first in
    record {
      height_is = size.height;
      line_is = size.line;
      sides = size.sides;
      depth_is = c.requires.depth;
      picture_is = c.requires.picture_is;
      number = refl;
      may = may;
      of = of;
      start = refl;
      drew = subst (λ (l : List RowJob). g.T.PageTable.drew_rows first first (reverse (versions_of l))) (sym none)
          (g.met.T.PageTable.rows_none c.args.table.now s a.number first may);
      took = subst (λ (l : List RowJob). g.S.Schedule.took height line own own (rows_of l)) (sym none)
          (g.met.S.Schedule.took_none c.args.rows.now height line own of);
      drawn = subst (All Row) (sym none) (All-nil Row);
      rising = λ i j e low inside. absurd (let n = ap length none in omega (arith, inside, n));
      same = refl;
      pages = pages;
      counted = subst (λ (xs : List ℕ). (p : ℕ) → p < length xs → slice_index xs p ≡ wants_in_rows g.P.Filter.wants s path picture (rows_of a.kept.elements) p)
          (sym cleared) (λ p inside. c.clear.ensures p inside ∙ sym (ap (λ (rows : List ℕ). wants_in_rows g.P.Filter.wants s path picture rows p)
          (ap rows_of none) ∙ wants-none g.P.Filter.wants s path picture p));
      spare = (let r = c.requires.room in omega (arith, r, size.height));
      kept = ap length none;
      enough = omega arith;
    }

pub returns : goal.returns
returns g c =
    let a = c.args.self.now in
    let did = c.draw_all.ensures in
    let d = did.drew in
    let size = c.size_of-height.ensures in
    let cleared = with_items_is a.counts c.clear.new.counts (c.clear.auto.counts ∙ c.as_mut_slice.ensures.len) in
    let b = c.draw_all.new.state in
    let e = c.enter.ensures in
    let both : (c.size_of-height.result.0, c.size_of-height.result.1) ≡ (_, _) = λ j. (size.height j, size.line j) in
    record {
      number = d.number;
      may = d.may;
      of = subst (λ (z : ℕ × ℕ). g.S.Schedule.is_of c.args.rows.now z.0 z.1 b.own) both d.of;
      first = c.enter.new.reader;
      entered = e.entered;
      start = d.start ∙ e.start;
      drew = d.drew;
      took = subst (λ (z : ℕ × ℕ). g.S.Schedule.took z.0 z.1 a.own b.own (rows_of b.kept.elements)) both d.took;
      ended = subst (λ (z : ℕ × ℕ). g.S.Schedule.ended z.0 z.1 a.own b.own (rows_of b.kept.elements)) both did.ended;
      drawn = subst (λ (z : ℕ × ℕ). All (IsDrawnRow g.T.PageTable g.P.Filter c.args.shot.now.geometry.now c.args.shot.now.depth c.args.shot.now.path.now
          c.args.shot.now.picture z.0 z.1 a.number c.enter.new.reader b.reader) b.kept.elements) both d.drawn;
      start_is = e.start;
      rising = d.rising;
      pages = d.same ∙ ap length cleared ∙ c.clear.auto.counts ∙ ap length c.as_mut_slice.ensures.value;
      counted = d.counted;
    }

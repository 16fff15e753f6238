use Rattle.std.proofs.Common.{◌≡◌, ◌∙◌, ap, subst, sym, length}
use Rattle.vt_lookup.specs.Lookups.{Note}
use Rattle.vt_lookup.proofs.DrawnRows.{drawn_by_more}
use Rattle.vt_lookup.specs.Shots.{shot_row, AreDrawn}
use Rattle.vt_table.specs.Views.{TableView}
use Rattle.vt_sampler.specs.Notes.{IsTrueOf}
use Rattle.vt_sampler.proofs.Truths.{true_back}
use Rattle.vt_sampler.proofs.rows.draw_one_row.Goals as goal

pub returns-clause-drawn : goal.returns-clause-drawn
returns-clause-drawn c =
    let v : TableView = c.draw_row.new.lookup in
    let version : length v.changes ≡ length c.args.table.now.changes =
    c.draw_row.ensures.version ∙ ap (λ (u : TableView). length u.changes) c.new-lookup.ensures in
    let on : (note : Note) → IsTrueOf c.args.table.now note → IsTrueOf v note =
    λ note h. c.draw_row.ensures.said note (subst (λ (u : TableView). IsTrueOf u note) (sym c.new-lookup.ensures) h) in
    drawn_by_more c.args.shot.now.geometry.now c.args.shot.now.depth (length c.args.table.now.changes) c.args.shot.now.path.now.width
    (IsTrueOf v) (IsTrueOf c.args.table.now)
    (shot_row c.args.shot.now.geometry.now c.args.shot.now.path.now c.args.shot.now.picture c.args.y) c.draw_row.new.out
    (true_back c.args.table.now v on)
    (subst (λ n. AreDrawn c.args.shot.now.geometry.now c.args.shot.now.depth n (IsTrueOf v)
    (shot_row c.args.shot.now.geometry.now c.args.shot.now.path.now c.args.shot.now.picture c.args.y) c.args.shot.now.path.now.width c.draw_row.new.out)
    version c.draw_row.ensures.drawn)

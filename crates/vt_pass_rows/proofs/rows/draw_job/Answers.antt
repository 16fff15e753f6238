use Rattle.std.proofs.Common.{◌≡◌, ℕ, List, length, refl, sym, ap, ◌∙◌, subst}
use Rattle.vt_page_table.specs.Shots.{shot_row}
use Rattle.vt_page_table.specs.Evidence.{AreShown}
use Rattle.vt_schedules.proofs.Keepers.{refilled}
use Rattle.vt_pass_rows.proofs.rows.draw_job.Goals as goal

pub returns-clause-drew : goal.returns-clause-drew
returns-clause-drew g c = c.draw_row-version.ensures.drew

pub returns-clause-full : goal.returns-clause-full
returns-clause-full g c =
    let out = c.draw_row-version.new.out in
    let number : length out ≡ length c.args.job.samples.elements = c.draw_row-version.auto.out ∙ ap length c.slice_mut.ensures.value in
    ap length (refilled c.args.job.samples.elements out number) ∙ number

pub returns-clause-by : goal.returns-clause-by
returns-clause-by g c = refl

pub returns-clause-drawn : goal.returns-clause-drawn
returns-clause-drawn g c =
    let s = c.args.shot.now.geometry.now in
    let path = c.args.shot.now.path.now in
    let d = c.args.shot.now.depth in
    let drawn = c.draw_row-version in
    subst (λ (l : List ℕ). AreShown g.P.Filter.shown s d drawn.result (g.T.PageTable.says drawn.new.reader)
    (shot_row s path c.args.shot.now.picture c.args.job.row) path.width l)
    (sym (refilled c.args.job.samples.elements drawn.new.out (drawn.auto.out ∙ ap length c.slice_mut.ensures.value))) drawn.ensures.drawn

use Rattle.std.proofs.Common.{ℕ, sym, subst}
use Rattle.vt_pictures.specs.Shots.{shot_row}
use Rattle.vt_pictures.specs.Evidence.{AreShown}
use Rattle.vt_pictures.proofs.Handed.{shown_by_more}
use Rattle.vt_lookup.specs.Notes.{IsNotedIn}
use Rattle.vt_lookup.proofs.Ending.{held_one, noted_idle}
use Rattle.vt_lookup.proofs.drawing.draw_held.Goals as goal

pub returns-clause-more : goal.returns-clause-more
returns-clause-more g c =
    held_one c.args.pass.view c.pin-held.result.view c.draw_under-held.result.view c.unpin.result.view c.pin-held.result.version
    c.version-version.result c.pin-held.ensures.view c.draw_under-held.ensures.more c.unpin.ensures.view c.version-version.ensures

pub returns-clause-drawn : goal.returns-clause-drawn
returns-clause-drawn g c =
    let row = shot_row c.args.shot.now.geometry.now c.args.shot.now.path.now c.args.shot.now.picture c.args.y in
    shown_by_more g.P.Filter.shown c.args.shot.now.geometry.now c.args.shot.now.depth c.version-version.result c.args.shot.now.path.now.width
    (IsNotedIn c.draw_under-held.result.view) (IsNotedIn c.unpin.result.view) row c.draw_under-held.new.out
    (noted_idle c.draw_under-held.result.view c.unpin.result.view c.unpin.ensures.view)
    (subst (λ (v : ℕ). AreShown g.P.Filter.shown c.args.shot.now.geometry.now c.args.shot.now.depth v (IsNotedIn c.draw_under-held.result.view)
    row c.args.shot.now.path.now.width c.draw_under-held.new.out) (sym c.version-version.ensures) c.draw_under-held.ensures.drawn)

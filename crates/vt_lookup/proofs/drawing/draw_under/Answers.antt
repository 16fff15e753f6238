use Rattle.std.proofs.Common.{◌≡◌, ℕ, sym, ap, ◌∙◌, subst}
use Rattle.vt_pictures.specs.DrawLookups.{Note}
use Rattle.vt_pictures.specs.Shots.{shot_row}
use Rattle.vt_pictures.specs.Evidence.{AreShown}
use Rattle.vt_pictures.proofs.Handed.{shown_by_more}
use Rattle.vt_grace.specs.Values.{HeldValue}
use Rattle.vt_lookup.specs.Notes.{IsNotedIn, LookupValue}
use Rattle.vt_lookup.proofs.drawing.draw_under.Goals as goal

pub returns-clause-drawn : goal.returns-clause-drawn
returns-clause-drawn g c =
    let row = shot_row c.args.shot.now.geometry.now c.args.shot.now.path.now c.args.shot.now.picture c.args.y in
    let last : HeldValue = c.draw_row.new.lookup.held in
    let version : last.version ≡ c.args.held.version = c.draw_row.ensures.version ∙ ap (λ (v : LookupValue). v.held.version) c.new-lookup.ensures in
    let on : (note : Note) → IsNotedIn last.view note → IsNotedIn c.into_held.result.view note = λ note h.
    subst (λ (v : HeldValue). IsNotedIn v.view note) (sym c.into_held.ensures.held) h in
    shown_by_more g.P.Filter.shown c.args.shot.now.geometry.now c.args.shot.now.depth c.args.held.version c.args.shot.now.path.now.width
    (IsNotedIn last.view) (IsNotedIn c.into_held.result.view) row c.draw_row.new.out on
    (subst (λ (v : ℕ). AreShown g.P.Filter.shown c.args.shot.now.geometry.now c.args.shot.now.depth v (IsNotedIn last.view)
    row c.args.shot.now.path.now.width c.draw_row.new.out) version c.draw_row.ensures.drawn)

use Rattle.std.proofs.Common.{◌≡◌, ℕ, false, List, sym, ap, ◌∙◌, subst}
use mathlib.Core.List.{IsPrefix}
use Rattle.vt_pictures.specs.DrawLookups.{Note}
use Rattle.vt_pictures.specs.Shots.{shot_row}
use Rattle.vt_pictures.specs.Evidence.{AreShown}
use Rattle.vt_pictures.proofs.Handed.{shown_by_more}
use Rattle.vt_swap_steps.specs.LogTypes.records.LogRecord.{LogRecord}
use Rattle.vt_swap.specs.Notes.{IsSaidBy}
use Rattle.vt_swap.specs.Readers.{LookupView, IsSaidIn}
use Rattle.vt_swap.proofs.Saying.{said_on}
use Rattle.vt_swap.proofs.drawing.draw_under.Goals as goal

pub returns-clause-drawn : goal.returns-clause-drawn
returns-clause-drawn g c none =
    let row = shot_row c.args.shot.now.geometry.now c.args.shot.now.path.now c.args.shot.now.picture c.args.y in
    let last : LookupView = c.draw_row.new.lookup in
    let all : List LogRecord = c.learn.new.mine.seen.log in
    let version : last.table.version ≡ c.args.table.now.version =
    c.draw_row.ensures.version ∙ ap (λ (v : LookupView). v.table.version) c.new-lookup.ensures in
    let whole : last.failed ≡ false = sym c.end-seen.ensures.failed ∙ none in
    let pre : IsPrefix last.log all = subst (λ (l : List LogRecord). IsPrefix l all) c.end-seen.ensures.front.0 c.learn.ensures.other in
    let on : (note : Note) → IsSaidIn last note → IsSaidBy all note = λ note said. said_on last.log all note pre (said whole) in
    shown_by_more g.P.Filter.shown c.args.shot.now.geometry.now c.args.shot.now.depth c.args.table.now.version c.args.shot.now.path.now.width
    (IsSaidIn last) (IsSaidBy all) row c.draw_row.new.out on
    (subst (λ (v : ℕ). AreShown g.P.Filter.shown c.args.shot.now.geometry.now c.args.shot.now.depth v (IsSaidIn last) row
    c.args.shot.now.path.now.width c.draw_row.new.out) version c.draw_row.ensures.drawn)

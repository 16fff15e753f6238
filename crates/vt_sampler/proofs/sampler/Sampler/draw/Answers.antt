use Rattle.vt_lookup.specs.Shots.{shot_row}
use Rattle.vt_lookup.proofs.NearestNotes.{row_by_said}
use Rattle.vt_lookup.specs.Notes.{IsNotedIn}
use Rattle.vt_sampler.specs.Samplers.{row_at, version_at}
use Rattle.vt_sampler.proofs.sampler.Sampler.draw.Goals as goal

pub returns-clause-drawn : goal.returns-clause-drawn
returns-clause-drawn g c y own =
    row_by_said c.args.shot.now.geometry.now c.args.shot.now.depth (version_at c.draw_by.new.self y) (IsNotedIn c.draw_by.result.view)
    (shot_row c.args.shot.now.geometry.now c.args.shot.now.path.now c.args.shot.now.picture y) c.args.shot.now.path.now.width
    (row_at c.draw_by.new.self y) (c.draw_by.ensures.drawn y own)

pub returns-clause-counted : goal.returns-clause-counted
returns-clause-counted g c = c.draw_by.ensures.counted

use Rattle.std.proofs.Common.{sym, subst}
use Rattle.vt_journal.specs.Kept.{entries_of}
use Rattle.vt_pictures.specs.Scenes.{scene_of}
use Rattle.vt_replay_rows.specs.ReplayLookups.{ReplayLookupView}
use Rattle.vt_replay_rows.specs.Trying.{HoldsStoreTiles, ShowsRow}
use Rattle.vt_replay_rows.proofs.draw.try_once.Goals as goal

pub returns-clause-shown : goal.returns-clause-shown
returns-clause-shown g c = λ none known tiles.
    let shot = c.args.shot.now in
    let same = c.new-replay_lookup.ensures in
    subst (λ (v : ReplayLookupView). ShowsRow g.P.Filter.under (scene_of shot.geometry.now shot.depth shot.path.now) (entries_of v.entries) known shot.picture
    c.args.y c.try_line.new.out) same
    (c.try_line.ensures.shown none known (subst (λ (v : ReplayLookupView). HoldsStoreTiles shot.geometry.now shot.depth v known) (sym same) tiles))

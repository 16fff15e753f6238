use Rattle.std.proofs.Common.{◌*◌, ◌<◌, length, arith}
use Rattle.vt_definitions.specs.Depths.{texel_length}
use Rattle.vt_journal.specs.Kept.{entries_of}
use Rattle.vt_pictures.specs.Scenes.{scene_of}
use Rattle.vt_replay_rows.specs.Trying.{ShowsRow, IsRowLeft}
use Rattle.vt_replay_rows.proofs.Reading.{read_none}
use Rattle.vt_replay_rows.proofs.Trying.{tried_none, tried_here}
use Rattle.vt_replay_rows.proofs.draw.draw_next.Goals as goal

pub returns-then-not-left-y-clause-tried : goal.returns-then-not-left-y-clause-tried
returns-then-not-left-y-clause-tried g c = tried_none _ _ _ c.args.left.now c.args.samples.now

pub returns-then-not-left-y-clause-read : goal.returns-then-not-left-y-clause-read
returns-then-not-left-y-clause-read g c = read_none g.F.File c.args.store.now

pub returns-in_err-draw_into-clause-read : goal.returns-in_err-draw_into-clause-read
returns-in_err-draw_into-clause-read g c = c.draw_into.ensures.read

pub returns-clause-tried : goal.returns-clause-tried
returns-clause-tried g c =
    let shot = c.args.shot.now in
    let inside : c.args.y < length c.args.left.now = omega (arith, c.requires.rows, c.requires.within) in
    let is : IsRowLeft c.args.left.now c.args.y = c.if-not-left-y.false in
    tried_here (texel_length shot.depth * shot.path.now.width) c.args.y
    (ShowsRow g.P.Filter.under (scene_of shot.geometry.now shot.depth shot.path.now) (entries_of c.args.table.now.entries.items)
    (g.F.File.bytes c.args.store.now.file) shot.picture) c.args.left.now c.args.samples.now c.draw_into.new.samples inside is
    c.in_ok-draw_into.ensures.shown c.draw_into.ensures.others

pub returns-clause-read : goal.returns-clause-read
returns-clause-read g c = c.draw_into.ensures.read

use Rattle.std.proofs.Common.{ℕ, ◌*◌, List, Option, ◌∙◌, eq-eqb}
use Rattle.vt_definitions.specs.Depths.{texel_length}
use Rattle.vt_journal.specs.Kept.{entries_of}
use Rattle.vt_pictures.specs.Scenes.{scene_of}
use Rattle.vt_replay_rows.specs.Trying.{ShowsRow}
use Rattle.vt_replay_rows.proofs.Places.{told_apart}
use Rattle.vt_replay_rows.proofs.Reading.{read_then}
use Rattle.vt_replay_rows.proofs.Trying.{tried_on, tried_all}
use Rattle.vt_replay_rows.proofs.version.draw_version.Goals as goal

pub returns-clause-shown : goal.returns-clause-shown
returns-clause-shown g c = λ y row is named.
    let shot = c.args.shot.now in
    let wide = texel_length shot.depth * shot.path.now.width in
    let shows : Option (List ℕ) → ℕ → List ℕ → Type 0 = λ (o : Option (List ℕ)) (k : ℕ) (bytes : List ℕ).
    ShowsRow g.P.Filter.under (scene_of shot.geometry.now shot.depth shot.path.now) (entries_of c.args.table.now.entries.items) o shot.picture k bytes in
    let known = g.F.File.bytes c.args.store.now.file in
    let tried = tried_on wide shows known (g.F.File.bytes c.draw_beside.new.store.file) c.mark_rows.new.left c.draw_beside.new.left c.draw_left.new.left
    c.args.samples.now c.draw_beside.new.samples c.draw_left.new.samples c.draw_beside.ensures.read.bytes c.in_ok-draw_beside.ensures.tried
    c.in_ok-draw_left.ensures.tried in
    tried_all wide y (shows known) c.mark_rows.new.left c.draw_left.new.left c.args.samples.now c.draw_left.new.samples tried
    c.in_ok-draw_left.ensures.done (c.mark_rows.ensures y row is ∙ eq-eqb row.version c.args.version named)

pub returns-clause-kept : goal.returns-clause-kept
returns-clause-kept g c = λ y row is other.
    let first = c.in_ok-draw_beside.ensures.tried.kept y (c.mark_rows.ensures y row is ∙ told_apart row.version c.args.version other) in
    (c.in_ok-draw_left.ensures.tried.kept y first.0).1 ∙ first.1

pub returns-in_err-draw_beside-clause-read : goal.returns-in_err-draw_beside-clause-read
returns-in_err-draw_beside-clause-read g c = c.draw_beside.ensures.read

pub returns-in_err-draw_left-clause-read : goal.returns-in_err-draw_left-clause-read
returns-in_err-draw_left-clause-read g c =
    read_then g.F.File c.args.store.now c.draw_beside.new.store c.draw_left.new.store c.draw_beside.ensures.read c.draw_left.ensures.read

pub returns-clause-read : goal.returns-clause-read
returns-clause-read g c =
    read_then g.F.File c.args.store.now c.draw_beside.new.store c.draw_left.new.store c.draw_beside.ensures.read c.draw_left.ensures.read

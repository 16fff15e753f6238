use Rattle.std.proofs.Common.{◌≡◌, ℕ, ◌*◌, ◌++◌, List, length, take, drop, ap, ◌∙◌, subst, arith}
use Rattle.std.specs.Prelude.{slice_get}
use Rattle.vt_definitions.specs.Depths.{texel_length, texel_bytes}
use Rattle.vt_journal.specs.declared.changes.RowLine.{RowLine}
use Rattle.vt_journal.specs.Changes.{Table, at}
use Rattle.vt_journal.specs.Kept.{entries_of}
use Rattle.vt_tiles.specs.Format.{stored}
use Rattle.vt_replay_rows.specs.Scenes.{scene_of}
use Rattle.vt_replay_rows.specs.Replays.{HasPixels}
use Rattle.vt_replay_rows.specs.ReplayLookups.{bytes_row}
use Rattle.vt_replay_rows.proofs.Places.{written_back}
use Rattle.vt_replay.proofs.play.show_version.Goals as goal

pub returns-clause-shown : goal.returns-clause-shown
returns-clause-shown g c = λ b known y row is named x inside.
    let js = c.args.journal.now.changes in
    let shot = c.args.shot.now in
    let stage = c.args.stage.now in
    let wide = texel_length shot.depth * shot.path.now.width in
    let scene = scene_of shot.geometry.now shot.depth shot.path.now in
    let samples : take stage.samples.len (c.draw_version.new.samples ++ drop
    (length c.draw_version.new.samples) stage.samples.items) ≡ c.draw_version.new.samples =
    written_back stage.samples.len c.draw_version.new.samples stage.samples.items (omega arith) (omega arith) in
    let agrees : entries_of c.advance.new.self.entries.items ≡ at js c.args.version = c.advance.ensures.follows.agrees ∙ ap (at js) c.advance.ensures.there in
    let shown = c.in_ok-draw_version.ensures.shown y row (ap (λ (rs : List RowLine). slice_get rs y) c.slice.ensures ∙ is) named b known
    (c.requires.staged.store_is.each b known) in
    let moved = subst (λ (m : Table). HasPixels shot.depth shot.path.now.width (λ k. g.P.Filter.under (stored b) scene m shot.picture k y)
    (bytes_row wide c.draw_version.new.samples y)) agrees shown in
    ap (λ (s : List ℕ). texel_bytes shot.depth (bytes_row wide s y) x) samples ∙ moved x inside

pub returns-clause-kept : goal.returns-clause-kept
returns-clause-kept g c = λ y row is other.
    let shot = c.args.shot.now in
    let stage = c.args.stage.now in
    let wide = texel_length shot.depth * shot.path.now.width in
    let samples : take stage.samples.len (c.draw_version.new.samples ++ drop
    (length c.draw_version.new.samples) stage.samples.items) ≡ c.draw_version.new.samples =
    written_back stage.samples.len c.draw_version.new.samples stage.samples.items (omega arith) (omega arith) in
    ap (λ (s : List ℕ). bytes_row wide s y) samples
    ∙ c.in_ok-draw_version.ensures.kept y row (ap (λ (rs : List RowLine). slice_get rs y) c.slice.ensures ∙ is) other
    ∙ ap (λ (s : List ℕ). bytes_row wide s y) c.as_mut_slice-samples.ensures.value

pub returns-in_err-draw_version-clause-read : goal.returns-in_err-draw_version-clause-read
returns-in_err-draw_version-clause-read g c = c.draw_version.ensures.read

pub returns-clause-read : goal.returns-clause-read
returns-clause-read g c = c.draw_version.ensures.read

pub returns-clause-there : goal.returns-clause-there
returns-clause-there g c = c.advance.ensures.there

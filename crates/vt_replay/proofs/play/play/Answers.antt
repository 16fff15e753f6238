use Rattle.std.proofs.Common.{ℕ, ◌≤◌, List, length, refl, sym, ap, subst, arith}
use Rattle.std.specs.Prelude.{IsSome}
use Rattle.vt_pages.specs.Pages.{root_of, IsWithinLimits}
use Rattle.vt_journal.specs.declared.changes.Change.{Change}
use Rattle.vt_journal.specs.Changes.{at}
use Rattle.vt_tiles.specs.Format.{stored}
use Rattle.vt_replay_rows.specs.Pictures.{expected_pictures}
use Rattle.vt_replay_rows.specs.Scenes.{scene_of}
use Rattle.vt_replay_rows.specs.Following.{MayBePlayed}
use Rattle.vt_replay.specs.Playing.{ArePlayed, HasWritten}
use Rattle.vt_replay.specs.Replayed.{replay_file, pictures_of}
use Rattle.vt_replay.proofs.Passes.{may_be_played, root_mapped, are_played}
use Rattle.vt_replay_rows.proofs.Reading.{read_none}
use Rattle.vt_replay.proofs.Staging.{staged_first}
use Rattle.vt_replay.proofs.play.play.Goals as goal

pub play_passes-requires-clause-played : goal.play_passes-requires-clause-played
play_passes-requires-clause-played g c = λ _ _.
    let s = c.args.store.now.shape in
    let played : MayBePlayed s c.args.text.now.changes = subst (λ (l : List Change). MayBePlayed s l) (sym c.requires.changes)
    (may_be_played s c.args.path.now.height c.args.text.now.content c.requires.lawful) in
    played

pub play_passes-requires-clause-staged : goal.play_passes-requires-clause-staged
play_passes-requires-clause-staged g c = λ _ _.
    let store = c.args.store.now in
    let stage = c.in_ok-stage.stage in
    let did = c.in_ok-stage.ensures in
    staged_first g.D.File.File store.shape c.geometry-geometry.result store.depth c.depth-depth.result c.args.path.now
    c.args.text.now.changes c.journal-journal.result.now.changes stage store
    c.geometry-geometry.ensures.shape c.depth-depth.ensures.value c.journal-journal.ensures refl refl did.follows
    (did.tiles (g.D.File.File.bytes store.file)) did.samples did.counts c.geometry-geometry.ensures.store

pub play_passes-requires-clause-first : goal.play_passes-requires-clause-first
play_passes-requires-clause-first g c = λ _ _. c.in_ok-stage.ensures.first

pub returns-in_err-stage-clause-asks : goal.returns-in_err-stage-clause-asks
returns-in_err-stage-clause-asks g c = record { asked = refl; faults = omega arith }

pub returns-in_err-stage-clause-read : goal.returns-in_err-stage-clause-read
returns-in_err-stage-clause-read g c = read_none g.D.File.File c.args.store.now

pub returns-clause-count : goal.returns-clause-count
returns-clause-count g c = c.play_passes.ensures.count

pub returns-clause-asks : goal.returns-clause-asks
returns-clause-asks g c = c.play_passes.ensures.asks

pub returns-clause-failed : goal.returns-clause-failed
returns-clause-failed g c = c.play_passes.ensures.failed

pub returns-clause-read : goal.returns-clause-read
returns-clause-read g c = c.play_passes.ensures.read

pub play_passes-requires-clause-passes : goal.play_passes-requires-clause-passes
play_passes-requires-clause-passes g c = λ _ _.
    let played = subst (λ (l : List Change). ArePlayed c.args.path.now.height c.args.text.now.content.pinned
    (length l) c.args.text.now.content.passes) (sym c.requires.changes)
    (are_played c.args.store.now.shape c.args.path.now.height c.args.text.now.content c.requires.lawful) in
    played

pub play_passes-requires-clause-root : goal.play_passes-requires-clause-root
play_passes-requires-clause-root g c = λ _ _.
    let s = c.args.store.now.shape in
    let js = c.args.text.now.changes in
    let limits : IsWithinLimits s = subst IsWithinLimits c.geometry-geometry.ensures.shape c.tile-side.ensures.limits in
    let mapped : (v : ℕ) → c.args.text.now.content.pinned ≤ v → v ≤ length js → IsSome (at js v (root_of s)) =
    (λ v low high.
    subst (λ (l : List Change). IsSome (at l v (root_of s))) (sym c.requires.changes)
    (root_mapped s c.args.path.now.height c.args.text.now.content limits c.requires.lawful v low
    (omega (arith, high, ap (λ (l : List Change). length l) c.requires.changes)))) in
    mapped

pub returns-clause-wrote : goal.returns-clause-wrote
returns-clause-wrote g c = λ b known.
    let content = c.args.text.now.content in
    let path = c.args.path.now in
    let s = c.args.store.now.shape in
    let d = c.args.store.now.depth in
    let before = g.D.Folder.files c.args.folder.now in
    let after = g.D.Folder.files c.play_passes.new.folder in
    let r = c.play_passes.result in
    let wrote = c.play_passes.ensures.wrote b known in
    subst (λ (l : List Change). HasWritten (expected_pictures c.args.prefix.now (replay_file g.P.Filter.under (stored b) (scene_of s d path)
    l content.passes) (pictures_of content.passes)) before after r) c.requires.changes wrote

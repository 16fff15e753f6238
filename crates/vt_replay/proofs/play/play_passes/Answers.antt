use Rattle.std.proofs.Common.{◌≡◌, ℕ, ◌+◌, ◌-◌, ◌<◌, ◌≤◌, List, [], get_or, rules, Option, length, refl, sym, ap, ◌∙◌, subst, arith}
use Rattle.std.specs.Prelude.{MatchOption, option_map}
use Rattle.std.proofs.lemmas.Option.{slice_get_past, slice_get_within, slice_get-get_or}
use Rattle.std.proofs.lemmas.Result.{err_from_is_err_and}
use Rattle.vt_ppm.specs.Picture.{picture_bytes}
use Rattle.vt_journal.specs.declared.changes.Change.{Change}
use Rattle.vt_journal.specs.JournalText.{Pass}
use Rattle.vt_journal.specs.Passes.{pass_of}
use Rattle.vt_tiles.specs.Format.{stored}
use Rattle.vt_outside.specs.Effects.{folder_state}
use Rattle.vt_outside.specs.Expectations.{with_files}
use Rattle.vt_replay_rows.specs.Pictures.{expected_pictures}
use Rattle.vt_replay_rows.proofs.WrittenPictures.{HasPictures, no_pictures}
use Rattle.vt_replay_rows.specs.Scenes.{scene_of}
use Rattle.vt_replay.specs.Playing.{AreRowsWithin}
use Rattle.vt_replay.specs.Replayed.{replayed_rows, pictures_of, replay_file}
use Rattle.vt_replay_rows.proofs.Reading.{read_none, read_then}
use Rattle.vt_replay.proofs.Staging.{restaged}
use Rattle.vt_replay.proofs.Written.{turn_first, turn_at, turn_same, turn_next, rows_within, shown_is, picture_counted, one_more, one_stopped}
use Rattle.vt_replay.proofs.play.play_passes.Goals as goal

pub loop-i-init : goal.loop-i-init
loop-i-init g c = record {
  staged = c.requires.staged;
  turn = turn_first c.args.path.now.height c.args.text.now.content.pinned (length c.args.text.now.changes) c.args.stage.now.table.version
      c.args.text.now.content.passes c.requires.passes c.requires.first;
  asks = record { asked = refl; faults = omega arith };
  files = λ b known. no_pictures c.args.prefix.now (replay_file g.P.Filter.under (stored b) (scene_of c.args.store.now.shape c.args.store.now.depth c.args.path.now)
      c.args.text.now.changes c.args.text.now.content.passes) (folder_state g.D.Folder c.args.folder.now);
  read = read_none g.D.File.File c.args.store.now;
}

pub play_pass-requires-clause-rows : goal.play_pass-requires-clause-rows
play_pass-requires-clause-rows g c =
    let pass = c.pass-pass.result.now in
    let within : AreRowsWithin c.args.path.now.height pass.start c.last_of-last.result pass.rows.elements =
    (rows_within c.args.path.now.height c.args.text.now.content.pinned (length c.args.text.now.changes) c.args.text.now.content.passes
    c.loop-i.i c.last_of-last.result (pass_of pass) c.requires.passes c.pass-pass.ensures c.last_of-last.ensures.next c.last_of-last.ensures.newest).0 in
    search (rules, within)

pub play_pass-requires-clause-inside : goal.play_pass-requires-clause-inside
play_pass-requires-clause-inside g c =
    let most = (rows_within c.args.path.now.height c.args.text.now.content.pinned (length c.args.text.now.changes) c.args.text.now.content.passes
    c.loop-i.i c.last_of-last.result
    (pass_of c.pass-pass.result.now) c.requires.passes c.pass-pass.ensures c.last_of-last.ensures.next c.last_of-last.ensures.newest).1 in
    omega (arith, most, ap (λ (js : List Change). length js) c.journal-journal.ensures)

pub returns-in_err-play_pass-clause-read : goal.returns-in_err-play_pass-clause-read
returns-in_err-play_pass-clause-read g c =
    read_then g.D.File.File c.args.store.now c.loop-i.store c.play_pass.new.store c.loop-i.invariant.read c.play_pass.ensures.read

pub returns-in_err-play_pass-clause-wrote : goal.returns-in_err-play_pass-clause-wrote
returns-in_err-play_pass-clause-wrote g c = λ b known.
    let e = err_from_is_err_and c.from_residual.result c.from_residual.ensures.1 in
    let passes = c.args.text.now.content.passes in
    let path = c.args.path.now in
    let s = c.args.store.now.shape in
    let d = c.args.store.now.depth in
    let p = pass_of c.pass-pass.result.now in
    let file : ℕ → List ℕ = replay_file g.P.Filter.under (stored b) (scene_of s d path) c.args.text.now.changes passes in
    let shown : ℕ → List ℕ = λ (picture : ℕ). picture_bytes c.depth-depth.result path.width path.height (replayed_rows g.P.Filter.under (stored b)
    (scene_of c.geometry-geometry.result c.depth-depth.result path) c.journal-journal.result.now.changes p.rows picture path.height) in
    let turn = turn_at passes c.loop-i.i c.loop-i.done c.loop-i.stage.table.version p c.loop-i.invariant.turn c.pass-pass.ensures in
    let same : shown p.picture ≡ file p.picture = shown_is g.P.Filter.under (stored b) s c.geometry-geometry.result d c.depth-depth.result path c.args.text.now.changes
    c.journal-journal.result.now.changes c.args.text.now.content.pinned (length c.args.text.now.changes) passes c.loop-i.i p
    c.geometry-geometry.ensures.shape c.depth-depth.ensures.value c.journal-journal.ensures c.requires.passes c.pass-pass.ensures
    (λ q at. c.if-not-is_last.ensures.last refl p q c.pass-pass.ensures at) in
    let within = slice_get_within passes c.loop-i.i p c.pass-pass.ensures in
    let low : p.picture < pictures_of passes = picture_counted 0 passes path.height c.args.text.now.content.pinned
    (length c.args.text.now.changes) c.requires.passes
    c.loop-i.i p c.pass-pass.ensures (length passes - (c.loop-i.i + 1)) (omega (arith, within)) in
    let before = folder_state g.D.Folder c.args.folder.now in
    let mid = folder_state g.D.Folder c.loop-i.folder in
    let after = folder_state g.D.Folder c.play_pass.new.folder in
    let have = subst (λ (n : ℕ). HasPictures c.args.prefix.now file n before mid) turn.0 (c.loop-i.invariant.files b known) in
    rw e.1 (one_stopped c.args.prefix.now file shown p.picture (pictures_of passes) before mid after c.in_err-play_pass.field-0.0 low same have
    c.play_pass.ensures.asks (c.in_err-play_pass.ensures.wrote b (c.loop-i.invariant.read.bytes ∙ known)))

pub overflow_add-done : goal.overflow_add-done
overflow_add-done g c =
    let p = pass_of c.pass-pass.result.now in
    let turn = turn_at c.args.text.now.content.passes c.loop-i.i c.loop-i.done
    c.loop-i.stage.table.version p c.loop-i.invariant.turn c.pass-pass.ensures in
    let same = turn.0 in
    let inside = c.requires.in_path c.loop-i.i p c.pass-pass.ensures in
    omega (arith, same, inside, c.pictures-pictures.ensures.value, c.pictures-pictures.ensures.high)

pub loop-i-preserved-then-not-is_last : goal.loop-i-preserved-then-not-is_last
loop-i-preserved-then-not-is_last g c =
    let passes = c.args.text.now.content.passes in
    let loop = c.loop-i in
    let first : Pass = record { pass = 0; picture = 0; start = 0; events = []; rows = [] } in
    let inside : loop.i < length passes = omega (arith, c.loop-i-test.true, c.passes-i-end.ensures) in
    let is = slice_get-get_or passes loop.i first inside in
    record {
      staged = loop.invariant.staged;
      turn = turn_same c.args.path.now.height c.args.text.now.content.pinned (length c.args.text.now.changes) passes loop.i loop.done
          loop.stage.table.version
          (get_or passes loop.i first) c.requires.passes is loop.invariant.turn (c.if-not-is_last.ensures.before refl (get_or passes loop.i first) is);
      asks = loop.invariant.asks;
      files = loop.invariant.files;
      read = loop.invariant.read;
    }

pub loop-i-preserved : goal.loop-i-preserved
loop-i-preserved g c =
    let passes = c.args.text.now.content.passes in
    let path = c.args.path.now in
    let s = c.args.store.now.shape in
    let d = c.args.store.now.depth in
    let loop = c.loop-i in
    let p = pass_of c.pass-pass.result.now in
    let did = c.in_ok-play_pass.ensures in
    let new = c.play_pass.new.stage in
    let first = loop.invariant.asks in
    let later = did.asks in
    let low = first.faults in
    let high = later.faults in
    let turn = turn_at passes loop.i loop.done loop.stage.table.version p loop.invariant.turn c.pass-pass.ensures in
    let before = folder_state g.D.Folder c.args.folder.now in
    let mid = folder_state g.D.Folder loop.folder in
    let after = folder_state g.D.Folder c.play_pass.new.folder in
    record {
      staged = restaged g.D.File.File s c.geometry-geometry.result d c.depth-depth.result path c.args.text.now.changes
          c.journal-journal.result.now.changes new c.play_pass.new.store c.geometry-geometry.ensures.shape c.depth-depth.ensures.value
          c.journal-journal.ensures did.staged;
      turn = turn_next path.height c.args.text.now.content.pinned (length c.args.text.now.changes) passes loop.i loop.done new.table.version p
          c.requires.passes c.pass-pass.ensures turn.0 (λ q at. c.if-not-is_last.ensures.last refl p q c.pass-pass.ensures at)
          (λ q at. did.there ∙ c.last_of-last.ensures.next q at);
      asks = record { asked = later.asked ∙ first.asked; faults = omega (arith, low, high) };
      files = λ b known.
          let file : ℕ → List ℕ = replay_file g.P.Filter.under (stored b) (scene_of s d path) c.args.text.now.changes passes in
          let shown : ℕ → List ℕ = λ (picture : ℕ). picture_bytes c.depth-depth.result path.width path.height (replayed_rows g.P.Filter.under (stored b)
          (scene_of c.geometry-geometry.result c.depth-depth.result path) c.journal-journal.result.now.changes p.rows picture path.height) in
          let same : shown p.picture ≡ file p.picture = shown_is g.P.Filter.under (stored b) s c.geometry-geometry.result d c.depth-depth.result path c.args.text.now.changes
          c.journal-journal.result.now.changes c.args.text.now.content.pinned (length c.args.text.now.changes) passes loop.i p
          c.geometry-geometry.ensures.shape c.depth-depth.ensures.value c.journal-journal.ensures c.requires.passes c.pass-pass.ensures
          (λ q at. c.if-not-is_last.ensures.last refl p q c.pass-pass.ensures at) in
          let have = subst (λ (n : ℕ). HasPictures c.args.prefix.now file n before mid) turn.0 (loop.invariant.files b known) in
          subst (λ (n : ℕ). HasPictures c.args.prefix.now file (n + 1) before after) (sym turn.0)
          (one_more c.args.prefix.now file shown p.picture before mid after same have later (did.wrote b (loop.invariant.read.bytes ∙ known)));
      read = read_then g.D.File.File c.args.store.now loop.store c.play_pass.new.store loop.invariant.read did.read;
    }

pub returns-clause-count : goal.returns-clause-count
returns-clause-count g c =
    let passes = c.args.text.now.content.passes in
    let past : length passes ≤ c.loop-i.i = omega (arith, c.loop-i-test.false, c.passes-i-end.ensures) in
    subst (λ (o : Option Pass). MatchOption o (c.loop-i.done ≡ pictures_of passes) (λ (q : Pass). (c.loop-i.done ≡ q.picture) ×
    (c.loop-i.stage.table.version ≤ q.start)))
    (slice_get_past passes c.loop-i.i past) c.loop-i.invariant.turn

pub returns-clause-wrote : goal.returns-clause-wrote
returns-clause-wrote g c = λ b known.
    let passes = c.args.text.now.content.passes in
    let past : length passes ≤ c.loop-i.i = omega (arith, c.loop-i-test.false, c.passes-i-end.ensures) in
    let count : c.loop-i.done ≡ pictures_of passes =
    subst (λ (o : Option Pass). MatchOption o (c.loop-i.done ≡ pictures_of passes) (λ (q : Pass). (c.loop-i.done ≡ q.picture) ×
    (c.loop-i.stage.table.version ≤ q.start)))
    (slice_get_past passes c.loop-i.i past) c.loop-i.invariant.turn in
    let file : ℕ → List ℕ = replay_file g.P.Filter.under (stored b) (scene_of c.args.store.now.shape c.args.store.now.depth c.args.path.now) c.args.text.now.changes passes in
    (c.loop-i.invariant.files b known).files
    ∙ ap (λ (n : ℕ). option_map (with_files (expected_pictures c.args.prefix.now file n)) (g.D.Folder.files c.args.folder.now)) count

pub returns-in_err-play_pass-clause-asks : goal.returns-in_err-play_pass-clause-asks
returns-in_err-play_pass-clause-asks g c =
    let low = c.loop-i.invariant.asks.faults in
    let high = c.play_pass.ensures.asks.faults in
    record { asked = c.play_pass.ensures.asks.asked ∙ c.loop-i.invariant.asks.asked; faults = omega (arith, low, high) }

pub returns-clause-asks : goal.returns-clause-asks
returns-clause-asks g c = c.loop-i.invariant.asks

pub returns-clause-read : goal.returns-clause-read
returns-clause-read g c = c.loop-i.invariant.read

use Rattle.std.proofs.Common.{◌≡◌, ◌≢◌, ℕ, ◌+◌, ◌*◌, inl, inr, List, get_or, refl, sym, ap, ◌∙◌, subst, arith}
use Rattle.std.proofs.lemmas.Bool.{cases_lt}
use Rattle.std.proofs.lemmas.Option.{slice_get-get_or}
use Rattle.vt_definitions.specs.Depths.{texel_length}
use Rattle.vt_journal.specs.declared.changes.RowLine.{RowLine}
use Rattle.vt_journal.specs.Changes.{at}
use Rattle.vt_tiles.specs.Format.{stored}
use Rattle.vt_replay_rows.specs.Scenes.{scene_of}
use Rattle.vt_replay_rows.specs.Replays.{HasPixels}
use Rattle.vt_replay_rows.specs.ReplayLookups.{bytes_row}
use Rattle.vt_replay_rows.proofs.Reading.{read_none, read_then}
use Rattle.vt_replay.proofs.Rows.{rows_are_replayed}
use Rattle.vt_replay.proofs.play.show_pass.Goals as goal

pub loop-version-init : goal.loop-version-init
loop-version-init g c = record {
  staged = c.requires.staged;
  behind = c.requires.forward;
  there = inl refl;
  shown = λ b known y row is low. (let from = c.requires.rows.from y row is in absurd (omega (arith, from, low)));
  read = read_none g.F.File c.args.store.now;
}

pub returns-in_err-show_version-clause-read : goal.returns-in_err-show_version-clause-read
returns-in_err-show_version-clause-read g c =
    read_then g.F.File c.args.store.now c.loop-version.store c.show_version.new.store c.loop-version.invariant.read c.show_version.ensures.read

pub loop-version-preserved : goal.loop-version-preserved
loop-version-preserved g c =
    let shot = c.args.shot.now in
    let js = c.args.journal.now.changes in
    let wide = texel_length shot.depth * shot.path.now.width in
    let loop = c.loop-version in
    let did = c.in_ok-show_version.ensures in
    let new = c.show_version.new.stage in
    let there = did.there in
    record {
      staged = did.staged;
      behind = omega (arith, there);
      there = inr (ap (λ (n : ℕ). n + 1) there);
      shown = λ b known y row is low.
          let Has : ℕ → List ℕ → Type 0 = λ (v : ℕ) (t : List ℕ). HasPixels shot.depth shot.path.now.width
          (λ x. g.P.Filter.under (stored b) (scene_of shot.geometry.now shot.depth shot.path.now) (at js v) shot.picture x y) t in
          elim (cases_lt row.version loop.version) [
            | inl before ↦
                let other : row.version ≢ loop.version = λ e. absurd (omega (arith, before, e)) in
                subst (Has row.version) (sym (did.kept y row is other)) (loop.invariant.shown b known y row is before)
            | inr past ↦
                let same : row.version ≡ loop.version = omega (arith, past, low) in
                subst (λ (v : ℕ). Has v (bytes_row wide new.samples.items y)) (sym same)
                (did.shown b (loop.invariant.read.bytes ∙ known) y row is same)
          ];
      read = read_then g.F.File c.args.store.now loop.store c.show_version.new.store loop.invariant.read did.read;
    }

pub returns-clause-shown : goal.returns-clause-shown
returns-clause-shown g c = λ b known.
    let shot = c.args.shot.now in
    let loop = c.loop-version in
    let rows = c.args.pass.now.rows.elements in
    let first : RowLine = record { row = 0; sampler = 0; version = 0 } in
    rows_are_replayed g.P.Filter.under (stored b) (scene_of shot.geometry.now shot.depth shot.path.now) c.args.journal.now.changes rows shot.picture shot.path.now.height
    (texel_length shot.depth * shot.path.now.width) loop.stage.samples.items refl loop.invariant.staged.samples_size c.requires.rows.count
    (λ y row is. loop.invariant.shown b known y row is (let to = c.requires.rows.to y row is in let end = c.loop-version-test.false in omega (arith, to, end)))
    (λ y low. (get_or rows y first, slice_get-get_or rows y first (let count = c.requires.rows.count in omega (arith, count, low))))

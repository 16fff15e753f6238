use Rattle.std.proofs.Common.{ℕ, ◌≡◌, ◌*◌, List, [], ◌∷◌, length, ◌∙◌, ap, sym, subst, refl, mul_comm, arith}
use Rattle.std.proofs.Math.Nat.{mul_left_comm}
use Rattle.std.proofs.lemmas.Result.{err_from_is_err_and}
use Rattle.vt_ppm.specs.Picture.{picture_bytes}
use Rattle.vt_tiles.specs.Format.{stored}
use Rattle.vt_definitions.specs.Depths.{texel_length}
use Rattle.vt_outside.specs.Effects.{folder_effect}
use Rattle.vt_outside.specs.Expectations.{Writes}
use Rattle.vt_replay_rows.specs.Pictures.{expected_picture}
use Rattle.vt_replay_rows.specs.Scenes.{scene_of}
use Rattle.vt_replay.specs.Replayed.{replayed_rows}
use Rattle.vt_replay.proofs.Written.{nothing_written, samples_written}
use Rattle.vt_outside.proofs.UnknownContents.{OnOk-all}
use Rattle.vt_replay.proofs.play.play_pass.Goals as goal

pub write_picture-requires-clause-full : goal.write_picture-requires-clause-full
write_picture-requires-clause-full g c κs within =
    let shot = c.args.shot.now in
    let t = texel_length shot.depth in
    let wide = shot.path.now.width in
    let high = shot.path.now.height in
    let held = ap length c.as_slice.ensures.value ∙ c.in_ok-show_pass.ensures.staged.samples_size in
    let turned = held ∙ (mul_left_comm high t wide ∙ ap (λ (n : ℕ). t * n) (mul_comm high wide)) in
    let by_width = subst (λ (w : ℕ). length c.as_slice.result.now ≡ t * (w * high)) (sym c.width.ensures.value) turned in
    subst (λ (h : ℕ). length c.as_slice.result.now ≡ t * (c.width.result * h)) (sym c.height.ensures.value) by_width

pub returns-in_err-show_pass-clause-wrote : goal.returns-in_err-show_pass-clause-wrote
returns-in_err-show_pass-clause-wrote g c = λ b known.
    let p = err_from_is_err_and c.from_residual.result c.from_residual.ensures.1 in
    rw p.1 (nothing_written _ (g.D.Folder.files c.args.folder.now) p.0)

pub returns-clause-wrote : goal.returns-clause-wrote
returns-clause-wrote g c = λ b known.
    let shot = c.args.shot.now in
    let shown : ℕ → List ℕ = λ (picture : ℕ). replayed_rows g.P.Filter.under (stored b) (scene_of shot.geometry.now shot.depth shot.path.now)
    c.args.journal.now.changes c.args.pass.now.rows.elements picture shot.path.now.height in
    let p = folder_effect g.D.Folder c.args.folder.now c.write_picture.new.folder in
    let moved = subst (λ (w : ℕ). Writes (expected_picture c.args.prefix.now
    (λ _. picture_bytes shot.depth w c.height.result c.as_slice.result.now) shot.picture ∷ []) p c.write_picture.result)
    c.width.ensures.value c.write_picture.ensures in
    let again = subst (λ (h : ℕ). Writes (expected_picture c.args.prefix.now
    (λ _. picture_bytes shot.depth shot.path.now.width h c.as_slice.result.now) shot.picture ∷ []) p c.write_picture.result)
    c.height.ensures.value moved in
    samples_written c.args.prefix.now shot.depth shot.path.now.width shot.path.now.height shot.picture c.as_slice.result.now shown p c.write_picture.result
    (c.as_slice.ensures.value ∙ c.in_ok-show_pass.ensures.shown b known) again

pub returns-in_err-show_pass-clause-asks : goal.returns-in_err-show_pass-clause-asks
returns-in_err-show_pass-clause-asks g c = record { asked = refl; faults = omega arith }

pub returns-in_err-show_pass-clause-read : goal.returns-in_err-show_pass-clause-read
returns-in_err-show_pass-clause-read g c = c.show_pass.ensures.read

pub returns-clause-read : goal.returns-clause-read
returns-clause-read g c = c.show_pass.ensures.read

pub returns-clause-staged : goal.returns-clause-staged
returns-clause-staged g c = OnOk-all c.write_picture.result _ c.in_ok-show_pass.ensures.staged

pub returns-clause-there : goal.returns-clause-there
returns-clause-there g c = OnOk-all c.write_picture.result _ c.in_ok-show_pass.ensures.there

use Rattle.std.proofs.Common.{◌≡◌, ◌∙◌}
use Rattle.std.proofs.lemmas.Result.{err_from_is_err_and}
use Rattle.vt_ppm.specs.Picture.{picture_bytes}
use Rattle.vt_replay_rows.specs.Names.{picture_name}
use Rattle.vt_outside.specs.Effects.{folder_state, folder_effect}
use Rattle.vt_outside.proofs.Writing.{unwritten, written_as}
use Rattle.vt_replay.proofs.writing.write_picture.Goals as goal

pub returns-in_err-encode_into : goal.returns-in_err-encode_into
returns-in_err-encode_into g c =
    let p = err_from_is_err_and c.from_residual.result c.from_residual.ensures.1 in
    rw (p.1, p.2) (unwritten _ (folder_state g.D.Folder c.args.folder.now))

pub returns-in_err-name : goal.returns-in_err-name
returns-in_err-name g c =
    let p = err_from_is_err_and c.from_residual-in_err-name.result c.from_residual-in_err-name.ensures.1 in
    rw (p.1, p.2) (unwritten _ (folder_state g.D.Folder c.args.folder.now))

pub returns : goal.returns
returns g c =
    let shown = c.args.picture.now in
    let name : c.as_str.result.now ≡ picture_name c.args.prefix.now c.args.number = c.as_str.ensures.value ∙ c.in_ok-name.ensures in
    let file : c.deref.result.now ≡ picture_bytes shown.depth shown.width shown.height shown.samples.now =
    c.deref.ensures.value ∙ c.in_ok-encode_into.ensures in
    written_as c.as_str.result.now c.deref.result.now (picture_name c.args.prefix.now c.args.number)
    (picture_bytes shown.depth shown.width shown.height shown.samples.now)
    (folder_effect g.D.Folder c.args.folder.now c.write_file.new.folder) c.write_file.result name file c.write_file.ensures

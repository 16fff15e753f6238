use Rattle.std.proofs.Common.{◌≡◌, refl, ◌∙◌}
use Rattle.std.proofs.lemmas.Result.{err_from_is_err_and}
use Rattle.vt_outside.specs.Effects.{folder_state, folder_effect}
use Rattle.vt_pictures.specs.Names.{picture_name}
use Rattle.vt_outside.proofs.Writing.{unwritten, written_as}
use Rattle.vt_store_commands.proofs.plain_groups.write_named.Goals as goal

pub returns-in_err-name : goal.returns-in_err-name
returns-in_err-name g c =
    let p = err_from_is_err_and c.from_residual.result c.from_residual.ensures.1 in
    rw (p.1, p.2) (unwritten _ (folder_state g.D.Folder c.args.folder.now))

pub returns : goal.returns
returns g c =
    let name : c.as_str.result.now ≡ picture_name c.args.prefix.now c.args.picture = c.as_str.ensures.value ∙ c.in_ok-name.ensures in
    written_as c.as_str.result.now c.args.bytes.now (picture_name c.args.prefix.now c.args.picture) c.args.bytes.now
    (folder_effect g.D.Folder c.args.folder.now c.write_file.new.folder) c.write_file.result name refl c.write_file.ensures

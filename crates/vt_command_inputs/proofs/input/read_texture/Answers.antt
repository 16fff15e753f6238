use Rattle.std.proofs.Common.{refl}
use Rattle.std.proofs.lemmas.Result.{err_from_is_err_and}
use Rattle.vt_outside.specs.Effects.{folder_state}
use Rattle.vt_command_inputs.specs.Inputs.{TextureInput, TextureContent}
use Rattle.vt_command_inputs.specs.Reads.{visit}
use Rattle.vt_command_inputs.proofs.Reading.{closed}
use Rattle.vt_command_inputs.proofs.Textures.{image_visited}
use Rattle.vt_command_inputs.proofs.input.read_texture.Goals as goal

pub returns-in_err-file : goal.returns-in_err-file
returns-in_err-file g c =
    let p = err_from_is_err_and c.from_residual.result c.from_residual.ensures.1 in
    rw (p.1, p.2) (c.in_err-file.ensures.refused (TextureInput c.args.name.now) refl)

pub returns : goal.returns
returns g c =
    closed (TextureInput c.args.name.now) TextureContent (folder_state g.D.Folder c.args.folder.now) (folder_state g.D.Folder c.open_input.new.folder)
    (folder_state g.D.Folder c.close.new.self) (visit g.D.File.File c.in_ok-file.file c.texture_in-texture.new.file) c.texture_in-texture.result
    c.in_ok-file.ensures.opened (image_visited c.args.name.now _ c.texture_in-texture.ensures.visits) c.texture_in-texture.ensures.finds
    (record { files = c.close.ensures.files; asked = c.close.ensures.asked; kept = c.close.ensures.kept; faults = c.close.ensures.faults })

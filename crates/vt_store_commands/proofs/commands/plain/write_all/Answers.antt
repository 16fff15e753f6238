use Rattle.std.proofs.Common.{◌∙◌}
use Rattle.std.proofs.lemmas.Result.{err_from_is_err_and}
use Rattle.vt_outside.specs.Effects.{folder_state}
use Rattle.vt_outside.proofs.Writing.{unwritten}
use Rattle.vt_store_commands.proofs.PlainFiles.{has_header}
use Rattle.vt_store_commands.proofs.commands.plain.write_all.Goals as goal

pub returns-in_err-begin_picture : goal.returns-in_err-begin_picture
returns-in_err-begin_picture g c =
    let p = err_from_is_err_and c.from_residual.result c.from_residual.ensures.1 in
    rw (p.1, p.2) (unwritten _ (folder_state g.D.Folder c.args.folder.now))

pub write_pictures-requires-after_bounds : goal.write_pictures-requires-after_bounds
write_pictures-requires-after_bounds g c κs within =
    has_header _ c.depth.result c.width.result c.height.result c.requires (c.as_slice.ensures.value ∙ c.in_ok-begin_picture.ensures) c.depth.ensures.value
    c.width.ensures.value c.height.ensures.value c.depth.ensures.depth c.width.ensures.high c.height.ensures.high

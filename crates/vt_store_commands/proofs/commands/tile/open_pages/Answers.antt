use Rattle.std.proofs.lemmas.Result.{err_from_is_err_and}
use Rattle.vt_outside.specs.Effects.{folder_state}
use Rattle.vt_command_inputs.specs.Reads.{file_state, Closed}
use Rattle.vt_store_commands.proofs.Tiling.{many_refused}
use Rattle.vt_store_commands.proofs.commands.tile.open_pages.Goals as goal

pub returns-in_err-reader-clause-refused : goal.returns-in_err-reader-clause-refused
returns-in_err-reader-clause-refused g c =
    let p = err_from_is_err_and c.from_residual.result c.from_residual.ensures.1 in
    rw (p.1, p.2) (c.in_err-reader.ensures.refused c.args.tile)

pub returns-in-Err-clause-refused : goal.returns-in-Err-clause-refused
returns-in-Err-clause-refused g c =
    let reader = c.in_ok-reader.reader in
    let opened = folder_state g.D.Folder c.open_texture.new.folder in
    let after = folder_state g.D.Folder c.close.new.self in
    let shut : Closed (file_state g.D.File.File c.into_file.result) (record { before = opened; after = after }) =
    record { files = c.close.ensures.files; asked = c.close.ensures.asked; kept = c.close.ensures.kept; faults = c.close.ensures.faults } in
    let closed : Closed (file_state g.D.File.File reader.file) (record { before = opened; after = after }) = rw c.into_file.ensures at shut in
    many_refused c.args.name.now c.args.tile reader.header (file_state g.D.File.File reader.file) c.in-Err.refusal
    (folder_state g.D.Folder c.args.folder.now) opened after c.in_ok-reader.ensures.opens closed
    (rw c.header.ensures.value at c.in-Err.ensures.many)

use Rattle.std.proofs.Common.{refl, ◌∙◌}
use Rattle.std.proofs.lemmas.Result.{err_from_is_err_and}
use Rattle.vt_outside.specs.Effects.{folder_state, folder_effect}
use Rattle.vt_command_inputs.specs.Reads.{file_state, Closed}
use Rattle.vt_command_inputs.proofs.Opening.{narrow_refused, wide_refused}
use Rattle.vt_store_commands.proofs.commands.upgrade.open_narrow.Goals as goal

pub returns-in_err-store-clause-refused : goal.returns-in_err-store-clause-refused
returns-in_err-store-clause-refused g c =
    let p = err_from_is_err_and c.from_residual.result c.from_residual.ensures.1 in
    rw (p.1, p.2) (narrow_refused c.args.name.now c.in_err-store.field-0.0 (folder_effect g.D.Folder c.args.folder.now c.open_store.new.folder)
    c.in_err-store.ensures.refused)

pub returns-clause-refused : goal.returns-clause-refused
returns-clause-refused g c =
    let store = c.in_ok-store.store in
    let opened = folder_state g.D.Folder c.open_store.new.folder in
    let after = folder_state g.D.Folder c.close.new.self in
    let shut : Closed (file_state g.D.File.File c.into_file.result) (record { before = opened; after = after }) =
    record { files = c.close.ensures.files; asked = c.close.ensures.asked; kept = c.close.ensures.kept; faults = c.close.ensures.faults } in
    let closed : Closed (file_state g.D.File.File store.file) (record { before = opened; after = after }) = rw c.into_file.ensures at shut in
    wide_refused c.args.name.now c.args.name store.shape store.depth (file_state g.D.File.File store.file) (folder_state g.D.Folder c.args.folder.now)
    opened after refl c.in_ok-store.ensures.depth (λ e. c.if-depth-eq1.false (c.depth.ensures.value ∙ e)) c.in_ok-store.ensures.opens closed

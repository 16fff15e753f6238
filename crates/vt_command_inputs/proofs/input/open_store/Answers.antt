use Rattle.std.proofs.Common.{Err, refl}
use Rattle.std.proofs.lemmas.Result.{err_from_is_err_and}
use Rattle.vt_outside.specs.Effects.{folder_state, folder_effect}
use Rattle.vt_command_inputs.specs.Inputs.{InputContent, StoreInput}
use Rattle.vt_command_inputs.specs.Reads.{visit}
use Rattle.vt_command_inputs.proofs.Opening.{store_opened}
use Rattle.vt_command_inputs.proofs.Reading.{closed}
use Rattle.vt_command_inputs.proofs.input.open_store.Goals as goal

pub returns-in_err-file-clause-refused : goal.returns-in_err-file-clause-refused
returns-in_err-file-clause-refused g c =
    let p = err_from_is_err_and c.from_residual.result c.from_residual.ensures.1 in
    rw (p.1, p.2) (c.in_err-file.ensures.refused (StoreInput c.args.name.now) refl)

pub returns-in-Ok-clause-opens : goal.returns-in-Ok-clause-opens
returns-in-Ok-clause-opens g c =
    store_opened c.args.name.now c.in-Ok.store.shape c.in-Ok.store.depth (folder_effect g.D.Folder c.args.folder.now c.open_input.new.folder)
    (visit g.D.File.File c.in_ok-file.file c.in-Ok.store.file) c.in_ok-file.ensures.opened c.in-Ok.ensures.visits c.in-Ok.ensures.read c.in-Ok.ensures.is

pub returns-in-Err-clause-refused : goal.returns-in-Err-clause-refused
returns-in-Err-clause-refused g c =
    closed (StoreInput c.args.name.now) (λ (x : InputContent). x) (folder_state g.D.Folder c.args.folder.now) (folder_state g.D.Folder c.open_input.new.folder)
    (folder_state g.D.Folder c.close.new.self) (visit g.D.File.File c.in_ok-file.file c.in-Err.file) (Err c.in-Err.refusal)
    c.in_ok-file.ensures.opened c.in-Err.ensures.tried c.in-Err.ensures.caused
    (record { files = c.close.ensures.files; asked = c.close.ensures.asked; kept = c.close.ensures.kept; faults = c.close.ensures.faults })

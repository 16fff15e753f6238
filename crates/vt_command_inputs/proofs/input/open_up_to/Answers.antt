use Rattle.std.proofs.Common.{ℕ, List, Err, sym, subst}
use Rattle.std.proofs.lemmas.Result.{err_from_is_err_and}
use Rattle.vt_outside.specs.Effects.{folder_effect, folder_state}
use Rattle.vt_command_inputs.specs.Inputs.{InputContent}
use Rattle.vt_command_inputs.specs.Reads.{Opened, file_state, visit}
use Rattle.vt_command_inputs.proofs.Reading.{closed}
use Rattle.vt_command_inputs.proofs.Textures.{strips_visited, texture_named}
use Rattle.vt_command_inputs.proofs.input.open_up_to.Goals as goal

pub returns-in_err-file-clause-refused : goal.returns-in_err-file-clause-refused
returns-in_err-file-clause-refused g c = λ input up.
    let p = err_from_is_err_and c.from_residual.result c.from_residual.ensures.1 in
    rw (p.1, p.2) (c.in_err-file.ensures.refused input (texture_named input c.args.most c.args.name.now up))

pub returns-in-Err-clause-refused : goal.returns-in-Err-clause-refused
returns-in-Err-clause-refused g c = λ input up.
    let v = visit g.D.File.File c.in_ok-file.file c.in-Err.file in
    closed input (λ (x : InputContent). x) (folder_state g.D.Folder c.args.folder.now)
    (folder_state g.D.Folder c.open_input.new.folder)
    (folder_state g.D.Folder c.close.new.self) v (Err c.in-Err.refusal)
    (subst (λ (n : List ℕ). Opened n (folder_effect g.D.Folder c.args.folder.now c.open_input.new.folder) (file_state g.D.File.File c.in_ok-file.file))
    (sym (texture_named input c.args.most c.args.name.now up)) c.in_ok-file.ensures.opened)
    (strips_visited input c.args.most c.args.name.now v up c.in-Err.ensures.tried) (c.in-Err.ensures.caused input up)
    (record { files = c.close.ensures.files; asked = c.close.ensures.asked; kept = c.close.ensures.kept; faults = c.close.ensures.faults })

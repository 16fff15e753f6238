use Rattle.std.proofs.Common.{ℕ, sym, subst}
use Rattle.std.proofs.lemmas.Result.{err_from_is_err_and}
use Rattle.vt_pages.specs.Shape.{Shape}
use Rattle.vt_outside.specs.Effects.{folder_state, folder_effect}
use Rattle.vt_command_inputs.specs.Inputs.{StoreInput, StoreContent}
use Rattle.vt_command_inputs.specs.Reads.{file_state, Closed, TookInput}
use Rattle.vt_command_inputs.proofs.Opening.{header_took}
use Rattle.vt_command_inputs.proofs.input.read_store_header.Goals as goal

pub returns-in_err-store-clause-header : goal.returns-in_err-store-clause-header
returns-in_err-store-clause-header g c =
    let p = err_from_is_err_and c.from_residual.result c.from_residual.ensures.1 in
    rw (p.1, p.2) c.in_err-store.ensures.refused

pub returns-clause-header : goal.returns-clause-header
returns-clause-header g c =
    let name = c.args.name.now in
    let store = c.in_ok-store.store in
    let before = folder_state g.D.Folder c.args.folder.now in
    let opened = folder_state g.D.Folder c.open_store.new.folder in
    let after = folder_state g.D.Folder c.close.new.self in
    let p = folder_effect g.D.Folder c.args.folder.now c.close.new.self in
    let shut : Closed (file_state g.D.File.File c.into_file.result) (record { before = opened; after = after }) =
    record { files = c.close.ensures.files; asked = c.close.ensures.asked; kept = c.close.ensures.kept; faults = c.close.ensures.faults } in
    let closed : Closed (file_state g.D.File.File store.file) (record { before = opened; after = after }) = rw c.into_file.ensures at shut in
    subst (λ (s : Shape). TookInput (StoreInput name) (StoreContent s c.depth.result) p) (sym c.geometry.ensures.shape)
    (subst (λ (d : ℕ). TookInput (StoreInput name) (StoreContent store.shape d) p) (sym c.depth.ensures.value)
    (header_took name store.shape store.depth (file_state g.D.File.File store.file) before opened after c.in_ok-store.ensures.opens closed))

use Rattle.std.proofs.Common.{[], refl, inl, arith}
use Rattle.vt_outside.specs.declared.answers.OutsideError.TheVariants.{NoMemory}
use Rattle.vt_outside.specs.Effects.{folder_state}
use Rattle.vt_command_inputs.specs.Inputs.{AreStrips}
use Rattle.vt_command_inputs.specs.Reads.{file_state, Closed}
use Rattle.vt_store_commands.specs.commands.Tile.{made_store}
use Rattle.vt_command_inputs.proofs.OpenWriting.{made_stopped}
use Rattle.vt_command_inputs.proofs.Reading.{gains_none}
use Rattle.vt_store_commands.proofs.Tiling.{no_strips}
use Rattle.vt_store_commands.proofs.commands.tile.write_store.Goals as goal

pub returns-in-Err : goal.returns-in-Err
returns-in-Err g c =
    let before = folder_state g.D.Folder c.args.folder.now in
    let after = folder_state g.D.Folder c.close.new.self in
    let file = file_state g.D.File.File c.args.reader.file in
    let header = c.args.reader.header in
    let tile = c.args.geometry.now.tile in
    let shut : Closed (file_state g.D.File.File c.in-Err.file) (record { before = before; after = after }) =
    record { files = c.close.ensures.files; asked = c.close.ensures.asked; kept = c.close.ensures.kept; faults = c.close.ensures.faults } in
    let closed : Closed file (record { before = before; after = after }) = rw c.in-Err.ensures.refused at shut in
    made_stopped (made_store header tile) (AreStrips header tile) c.args.name.now before before after file file
    [] NoMemory (inl refl) (no_strips header tile) (gains_none file.asked) (λ is. absurd (let wrong = is in cc)) refl refl (omega arith) closed

use Rattle.std.proofs.Common.{refl}
use Rattle.vt_command_inputs.specs.Effects.{folder_state, folder_effect}
use Rattle.vt_command_inputs.specs.Reads.{file_state, Closed}
use Rattle.vt_walk_commands.proofs.commands.replay.read_beside.Goals as goal

pub returns-in-Err-clause-refused : goal.returns-in-Err-clause-refused
returns-in-Err-clause-refused g c =
    let read = folder_state g.D.Folder c.read_journal.new.folder in
    let after = folder_state g.D.Folder c.close.new.self in
    let shut : Closed (file_state g.D.File.File c.into_file.result) (record { before = read; after = after }) =
    record { files = c.close.ensures.files; asked = c.close.ensures.asked; kept = c.close.ensures.kept; faults = c.close.ensures.faults } in
    let closed : Closed (file_state g.D.File.File c.args.store.file) (record { before = read; after = after }) = rw c.into_file.ensures at shut in
    record {
      read = folder_effect g.D.Folder c.args.folder.now c.read_journal.new.folder;
      begins = refl;
      refused = c.in-Err.ensures;
      closed = closed;
    }

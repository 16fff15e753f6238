use Rattle.std.proofs.Common.{[]}
use Rattle.vt_outside.specs.Effects.{folder_state}
use Rattle.vt_outside.proofs.Writing.{is_there, appended}
use Rattle.vt_outside.proofs.files.write_file.Goals as goal

pub returns : goal.returns
returns g c =
    let create = c.in_ok-create.ensures in
    let append = c.append.ensures in
    appended (record { name = c.args.name.now; bytes = c.args.bytes.now }) (folder_state g.D.Folder c.args.folder.now)
    (folder_state g.D.Folder c.create.new.self)
    (folder_state g.D.Folder c.append.new.self) c.append.result create.files (record { asked = create.asked; faults = create.faults })
    (record { asked = append.asked; faults = append.faults }) append.files append.part
    (λ failed. append.failed failed (is_there c.args.name.now [] (g.D.Folder.files c.args.folder.now) (g.D.Folder.files c.create.new.self) create.files))

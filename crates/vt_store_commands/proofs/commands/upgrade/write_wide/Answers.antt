use Rattle.std.proofs.Common.{Err, ap}
use Rattle.vt_outside.specs.Effects.{folder_state}
use Rattle.vt_command_inputs.specs.Reads.{file_state, Closed}
use Rattle.vt_store_commands.proofs.Upgrading.{wide_written, wide_stopped}
use Rattle.vt_store_commands.proofs.commands.upgrade.write_wide.Goals as goal

pub returns-in-Ok : goal.returns-in-Ok
returns-in-Ok g c =
    let e = c.in-Ok.ensures in
    let mid = folder_state g.D.Folder c.widen_store-written.new.folder in
    let after = folder_state g.D.Folder c.close.new.self in
    let old = file_state g.D.File.File c.args.store.file in
    let new = file_state g.D.File.File c.widen_store-written.new.store.file in
    let shut : Closed (file_state g.D.File.File c.into_file.result) (record { before = mid; after = after }) =
    record { files = c.close.ensures.files; asked = c.close.ensures.asked; kept = c.close.ensures.kept; faults = c.close.ensures.faults } in
    let closed : Closed new (record { before = mid; after = after }) = rw c.into_file.ensures at shut in
    wide_written c.args.store.shape c.args.name.now (folder_state g.D.Folder c.args.folder.now) mid after old new
    e.whole e.all_read e.name e.asked e.faults closed

pub returns-in-Err : goal.returns-in-Err
returns-in-Err g c =
    let e = c.in-Err.ensures in
    let mid = folder_state g.D.Folder c.widen_store-written.new.folder in
    let after = folder_state g.D.Folder c.close.new.self in
    let old = file_state g.D.File.File c.args.store.file in
    let new = file_state g.D.File.File c.widen_store-written.new.store.file in
    let shut : Closed (file_state g.D.File.File c.into_file.result) (record { before = mid; after = after }) =
    record { files = c.close.ensures.files; asked = c.close.ensures.asked; kept = c.close.ensures.kept; faults = c.close.ensures.faults } in
    let closed : Closed new (record { before = mid; after = after }) = rw c.into_file.ensures at shut in
    wide_stopped c.args.store.shape c.args.name.now (folder_state g.D.Folder c.args.folder.now) mid after old new c.outside_error.result
    e.part e.front_read (λ is. e.failed (ap Err (c.outside_error.ensures.0 is))) e.name e.asked e.faults closed

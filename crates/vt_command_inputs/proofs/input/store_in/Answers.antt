use Rattle.vt_command_inputs.specs.Reads.{file_state}
use Rattle.vt_command_inputs.proofs.Reading.{store_visited, refusal_visited}
use Rattle.vt_command_inputs.proofs.input.store_in.Goals as goal

pub returns-in-Ok-clause-visits : goal.returns-in-Ok-clause-visits
returns-in-Ok-clause-visits g c =
    let e = c.in-Ok.ensures in
    store_visited (file_state g.F.File c.args.file)
    (file_state g.F.File c.in-Ok.store.file) c.in-Ok.store.shape c.in-Ok.store.depth e.store e.asked e.bytes e.name e.faults

pub returns-in-Err-clause-tried : goal.returns-in-Err-clause-tried
returns-in-Err-clause-tried g c =
    let e = c.in-Err.ensures in
    refusal_visited (file_state g.F.File c.args.file) (file_state g.F.File c.in-Err.file) c.in-Err.error e.asked e.bytes e.name e.faults

use Rattle.vt_command_inputs.proofs.input.texture_in.Goals as goal

pub returns-in-Ok-clause-visits : goal.returns-in-Ok-clause-visits
returns-in-Ok-clause-visits g c =
    let e = c.read_image.ensures in
    record { places = e.asked.places; may = e.asked.each; asked = e.asked.gained; bytes = e.bytes; name = e.name; faults = e.faults }

pub returns-in-Err-clause-visits : goal.returns-in-Err-clause-visits
returns-in-Err-clause-visits g c =
    let e = c.read_image.ensures in
    record { places = e.asked.places; may = e.asked.each; asked = e.asked.gained; bytes = e.bytes; name = e.name; faults = e.faults }

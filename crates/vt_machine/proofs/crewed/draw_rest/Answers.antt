use Rattle.std.specs.Arc.{arc_value}
use Rattle.vt_machine.proofs.crewed.draw_rest.Goals as goal

pub returns-in-Ok-clause-samplers : goal.returns-in-Ok-clause-samplers
returns-in-Ok-clause-samplers g c =
    (c.take_rest.ensures (arc_value c.args.shared.now) c.args.shot.now c.args.samplers c.in-Ok.ensures).0 c.args.batch.now c.requires.samplers

pub returns-in-Ok-clause-sampler_number : goal.returns-in-Ok-clause-sampler_number
returns-in-Ok-clause-sampler_number g c =
    (c.take_rest.ensures (arc_value c.args.shared.now) c.args.shot.now c.args.samplers c.in-Ok.ensures).1

pub returns-in-Ok-clause-sampler_room : goal.returns-in-Ok-clause-sampler_room
returns-in-Ok-clause-sampler_room g c =
    (c.take_rest.ensures (arc_value c.args.shared.now) c.args.shot.now c.args.samplers c.in-Ok.ensures).2

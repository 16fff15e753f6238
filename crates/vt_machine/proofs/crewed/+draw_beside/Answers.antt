use Rattle.std.specs.Arc.{arc_value}
use Rattle.vt_machine.specs.declared.lent_worker.Role.TheVariants.{Sampler}
use Rattle.vt_machine.proofs.LaidWorkers.{all_back}
use Rattle.vt_machine.proofs.crewed.+draw_beside.Goals as goal

pub returns-in-Some-clause-samplers : goal.returns-in-Some-clause-samplers
returns-in-Some-clause-samplers g t c =
    let s = arc_value c.args.shared.now in
    let shot = c.args.shot.now in
    all_back g.M.HandTask.ready g.M.HandTask.did s shot Sampler c.args.batch.now c.args.samplers c.next_sampler.new.samplers
    c.in-Some.pending c.in-Some.ensures.laid c.draw_beside-back.result.elements c.push.new.self.elements c.take_sampler.result c.requires.samplers
    c.draw_beside-back.ensures.samplers c.draw_beside-back.ensures.sampler_number (λ w. c.take_sampler.ensures s shot w) c.push.ensures.elements

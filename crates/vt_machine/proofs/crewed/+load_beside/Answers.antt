use Rattle.std.specs.Arc.{arc_value}
use Rattle.vt_machine.specs.declared.lent_worker.Role.TheVariants.{Loader}
use Rattle.vt_machine.proofs.LaidWorkers.{all_back}
use Rattle.vt_machine.proofs.crewed.+load_beside.Goals as goal

pub returns-in-Some-clause-loaders : goal.returns-in-Some-clause-loaders
returns-in-Some-clause-loaders g t c =
    let s = arc_value c.args.shared.now in
    let shot = c.args.shot.now in
    all_back g.L.HandTask.ready g.L.HandTask.did s shot Loader c.args.batch.now c.args.loaders.now c.next_loader.new.loaders
    c.in-Some.pending c.in-Some.ensures.laid c.load_beside-samplers.new.loaders.elements c.push.new.self.elements c.take_loader.result c.requires.loaders
    c.load_beside-samplers.ensures.loaders c.load_beside-samplers.ensures.loader_number (λ w. c.take_loader.ensures s shot w) c.push.ensures.elements

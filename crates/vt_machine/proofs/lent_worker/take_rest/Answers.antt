use Rattle.vt_machine.specs.declared.lent_worker.Role.TheVariants.{Rest}
use Rattle.vt_machine.proofs.LaidWorkers.{stay_rest, rest_worked}
use Rattle.vt_machine.proofs.lent_worker.take_rest.Goals as goal

pub rest_of-requires : goal.rest_of-requires
rest_of-requires g c =
    stay_rest g.L.HandTask.ready g.L.HandTask.did g.M.HandTask.ready g.M.HandTask.did c.requires.0 c.requires.1 c.requires.2 _
    (c.take_role.ensures c.requires.0 c.requires.1 (Rest c.requires.2) c.requires.3)

pub returns : goal.returns
returns g c s shot samplers laid =
    rest_worked g.L.HandTask.ready g.L.HandTask.did g.M.HandTask.ready g.M.HandTask.did s shot samplers _ _
    (c.take_role.ensures s shot (Rest samplers) laid) c.rest_of.ensures

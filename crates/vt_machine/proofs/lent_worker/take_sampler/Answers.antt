use Rattle.vt_machine.specs.declared.lent_worker.Role.TheVariants.{Sampler}
use Rattle.vt_machine.proofs.LaidWorkers.{stays_sampler, sampler_worked}
use Rattle.vt_machine.proofs.lent_worker.take_sampler.Goals as goal

pub sampler_of-requires : goal.sampler_of-requires
sampler_of-requires g c =
    stays_sampler g.L.HandTask.ready g.L.HandTask.did g.M.HandTask.ready g.M.HandTask.did c.requires.0 c.requires.1 c.requires.2 _
    (c.take_role.ensures c.requires.0 c.requires.1 (Sampler c.requires.2) c.requires.3)

pub returns : goal.returns
returns g c s shot worker laid =
    sampler_worked g.L.HandTask.ready g.L.HandTask.did g.M.HandTask.ready g.M.HandTask.did s shot worker _ _
    (c.take_role.ensures s shot (Sampler worker) laid) c.sampler_of.ensures

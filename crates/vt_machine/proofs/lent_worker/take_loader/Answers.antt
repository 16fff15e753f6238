use Rattle.vt_machine.specs.declared.lent_worker.Role.TheVariants.{Loader}
use Rattle.vt_machine.proofs.LaidWorkers.{stays_loader, loader_worked}
use Rattle.vt_machine.proofs.lent_worker.take_loader.Goals as goal

pub loader_of-requires : goal.loader_of-requires
loader_of-requires g c =
    stays_loader g.L.HandTask.ready g.L.HandTask.did g.M.HandTask.ready g.M.HandTask.did c.requires.0 c.requires.1 c.requires.2 _
    (c.take_role.ensures c.requires.0 c.requires.1 (Loader c.requires.2) c.requires.3)

pub returns : goal.returns
returns g c s shot worker laid =
    loader_worked g.L.HandTask.ready g.L.HandTask.did g.M.HandTask.ready g.M.HandTask.did s shot worker _ _
    (c.take_role.ensures s shot (Loader worker) laid) c.loader_of.ensures

use Rattle.vt_walk_commands.proofs.commands.replay.play.Goals as goal

pub returns-in-Nearest-clause-leaves : goal.returns-in-Nearest-clause-leaves
returns-in-Nearest-clause-leaves g c = rw c.in-Nearest.is c.replay_by.ensures.leaves

pub returns-in-Bilinear-clause-leaves : goal.returns-in-Bilinear-clause-leaves
returns-in-Bilinear-clause-leaves g c = rw c.in-Bilinear.is c.replay_blend.ensures.leaves

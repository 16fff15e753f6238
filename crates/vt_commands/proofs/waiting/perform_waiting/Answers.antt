use Rattle.vt_command_inputs.specs.Effects.{folder_state}
use Rattle.vt_commands.proofs.waiting.perform_waiting.Goals as goal

pub returns-in-Walk : goal.returns-in-Walk
returns-in-Walk g c = rw c.in-Walk.is c.walk_chosen.ensures

pub returns-in-Trial : goal.returns-in-Trial
returns-in-Trial g c = rw c.in-Trial.is (c.trial.ensures (folder_state g.D.Folder c.args.folder.now))

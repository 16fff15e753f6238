use Rattle.vt_outside.specs.Effects.{folder_effect}
use Rattle.vt_store.proofs.OneStep.{adds_of}
use Rattle.vt_store.proofs.steps.add_row.Goals as goal

pub returns-clause-added : goal.returns-clause-added
returns-clause-added g c =
    adds_of c.args.name.now c.args.tiles.now (folder_effect g.D.Folder c.args.folder.now c.append.new.self) c.append.result c.append.ensures.files
    c.append.ensures.part c.append.ensures.failed

pub returns-clause-asks : goal.returns-clause-asks
returns-clause-asks g c = record { asked = c.append.ensures.asked; faults = c.append.ensures.faults }

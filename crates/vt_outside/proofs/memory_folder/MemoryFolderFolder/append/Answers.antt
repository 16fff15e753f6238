use Rattle.vt_outside.proofs.Halves.{part_of_half}
use Rattle.vt_outside.proofs.memory_folder.MemoryFolderFolder.append.Goals as goal

pub returns-clause-part : goal.returns-clause-part
returns-clause-part c = part_of_half _ _ _ _ _ c.append_part.ensures.half c.append_part.ensures.none

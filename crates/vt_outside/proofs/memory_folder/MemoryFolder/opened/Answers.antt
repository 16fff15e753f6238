use Rattle.std.proofs.Common.{rules}
use Rattle.vt_outside.proofs.memory_folder.MemoryFolder.opened.Goals as goal

pub returns-clause-failed : goal.returns-clause-failed
returns-clause-failed c = search rules

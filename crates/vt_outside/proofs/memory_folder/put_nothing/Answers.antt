use Rattle.std.proofs.Common.{rules}
use Rattle.vt_outside.proofs.memory_folder.put_nothing.Goals as goal

pub returns-in_err-put_bytes-clause-files : goal.returns-in_err-put_bytes-clause-files
returns-in_err-put_bytes-clause-files c = search rules

pub returns-clause-files : goal.returns-clause-files
returns-clause-files c = search rules

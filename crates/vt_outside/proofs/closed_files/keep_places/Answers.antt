use Rattle.std.proofs.Common.{rules}
use Rattle.vt_outside.proofs.closed_files.keep_places.Goals as goal

pub returns : goal.returns
returns c = search rules

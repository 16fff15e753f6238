use Rattle.std.proofs.Common.{rules}
use Rattle.vt_tiles.proofs.header.magic_of.Goals as goal

pub returns-then-depth-eq2 : goal.returns-then-depth-eq2
returns-then-depth-eq2 c = search rules

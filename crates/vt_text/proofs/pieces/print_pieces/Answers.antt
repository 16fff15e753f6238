use Rattle.std.proofs.Common.{rules}
use Rattle.vt_text.proofs.pieces.print_pieces.Goals as goal

pub returns : goal.returns
returns g c = search rules

use Rattle.std.proofs.Common.{rules}
use Rattle.vt_text.proofs.pieces.put_piece.Goals as goal

pub returns-clause-failed : goal.returns-clause-failed
returns-clause-failed g c = search rules

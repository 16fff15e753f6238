use Rattle.vt_tiles.proofs.Stored.{pieces_hold_texels}
use Rattle.vt_tiles.proofs.laws.pieces_hold_texels.Goals as goal

pub returns : goal.returns
returns c = pieces_hold_texels

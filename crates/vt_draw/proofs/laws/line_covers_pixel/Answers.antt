use Rattle.vt_draw.proofs.Places.{wanted_line_covers}
use Rattle.vt_draw.proofs.laws.line_covers_pixel.Goals as goal

pub returns : goal.returns
returns c = wanted_line_covers

use Rattle.vt_table.proofs.Holding.{held_filled, held_published}
use Rattle.vt_table.proofs.laws.held_tiles_stay.Goals as goal

pub returns : goal.returns
returns c = record { filled = held_filled; published = held_published }

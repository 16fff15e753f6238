use Rattle.vt_tiles.proofs.Stored.{stores_open}
use Rattle.vt_tiles.proofs.laws.stores_open.Goals as goal

pub returns : goal.returns
returns c = stores_open

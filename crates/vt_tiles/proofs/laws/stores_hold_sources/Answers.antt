use Rattle.vt_tiles.proofs.Stored.{stores_hold_sources}
use Rattle.vt_tiles.proofs.laws.stores_hold_sources.Goals as goal

pub returns : goal.returns
returns c = stores_hold_sources

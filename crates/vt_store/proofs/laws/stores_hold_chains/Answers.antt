use Rattle.vt_store.proofs.Stored.{stores_hold_chains}
use Rattle.vt_store.proofs.laws.stores_hold_chains.Goals as goal

pub returns : goal.returns
returns c = stores_hold_chains

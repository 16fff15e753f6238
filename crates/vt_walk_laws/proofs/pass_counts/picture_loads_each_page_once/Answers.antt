use Rattle.vt_walk_laws.proofs.Counted.{loads_exactly, loads_once}
use Rattle.vt_walk_laws.proofs.pass_counts.picture_loads_each_page_once.Goals as goal

pub returns-clause-exact : goal.returns-clause-exact
returns-clause-exact c = loads_exactly

pub returns-clause-once : goal.returns-clause-once
returns-clause-once c = loads_once

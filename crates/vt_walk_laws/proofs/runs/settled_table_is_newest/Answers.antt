use Rattle.vt_walk.proofs.Settling.{settled_agrees}
use Rattle.vt_walk_laws.proofs.runs.settled_table_is_newest.Goals as goal

pub returns : goal.returns
returns c = record {
  table = λ old new js batch losses events t a l o s. (settled_agrees old new js batch losses events t a l o s).table;
  agrees = λ old new js batch losses events t a l o s. (settled_agrees old new js batch losses events t a l o s).agrees;
}

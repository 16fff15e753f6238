use Rattle.std.proofs.Common.{rules}
use Rattle.vt_crew.proofs.DeskSteps.{exchanged, laid, lays}
use Rattle.vt_crew.proofs.desk.lay.Goals as goal

pub store-requires : goal.store-requires
store-requires g c = (
  search rules,
  search rules,
  lays g.J.Work.ready g.J.Work.did _ _ _ c.args.job (exchanged _ _ _ _ _ c.requires.free c.exchange.ensures.3) c.requires.ready,
)

pub returns-clause-waits : goal.returns-clause-waits
returns-clause-waits g c = laid _ _ c.args.job (exchanged _ _ _ _ _ c.requires.free c.exchange.ensures.3) c.store.ensures.2

use Rattle.std.proofs.Common.{rules}
use Rattle.vt_crew.proofs.DeskSteps.{exchanged, tells}
use Rattle.vt_crew.proofs.hand.finish.Goals as goal

pub store-requires : goal.store-requires
store-requires g c = (
  search rules,
  search rules,
  tells g.J.Work.ready g.J.Work.did _ _ _ c.args.job c.do_job-done.result (exchanged _ _ _ _ _ c.requires.has c.exchange.ensures.3)
      c.do_job-done.ensures,
)

use Rattle.vt_pass_pool.proofs.Stills.{still_none}
use Rattle.vt_pass_machine.proofs.passes.prepare_shared.Goals as goal

pub returns-in-None-clause-still : goal.returns-in-None-clause-still
returns-in-None-clause-still g c = still_none g.T.PageTable _ g.met.T.PageTable.later_none c.args.own.now.writer c.requires.idle.fit.of

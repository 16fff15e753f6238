use Rattle.vt_load.proofs.loader.Loader.reserve.Goals as goal

pub returns-clause-room : goal.returns-clause-room
returns-clause-room g c = c.reserve.ensures.room

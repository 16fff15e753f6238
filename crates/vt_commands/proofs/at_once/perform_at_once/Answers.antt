use Rattle.vt_commands.proofs.at_once.perform_at_once.Goals as goal

pub returns-in-Store : goal.returns-in-Store
returns-in-Store g c = rw c.in-Store.is c.perform_store_command.ensures

pub returns-in-Replay : goal.returns-in-Replay
returns-in-Replay g c = rw c.in-Replay.is c.replay.ensures

use Rattle.vt_replay.proofs.Rows.{replay_is_one}
use Rattle.vt_replay.proofs.laws.replay_is_one.Goals as goal

pub returns : goal.returns
returns c = replay_is_one

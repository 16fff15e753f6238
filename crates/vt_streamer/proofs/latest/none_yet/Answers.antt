use Rattle.vt_streamer.proofs.Lasting.{latest_none}
use Rattle.vt_streamer.proofs.latest.none_yet.Goals as goal

pub returns : goal.returns
returns c = latest_none _

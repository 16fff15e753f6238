use Rattle.std.proofs.Common.{refl}
use Rattle.vt_streamer.proofs.Lasting.{latest_more}
use Rattle.vt_streamer.proofs.latest.one_more.Goals as goal

pub returns : goal.returns
returns c = λ changes before. latest_more changes c.args.change c.args.latest _ refl refl refl before

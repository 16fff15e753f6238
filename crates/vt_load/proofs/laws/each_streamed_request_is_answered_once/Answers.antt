use Rattle.vt_load.proofs.Streaming.{exact, served}
use Rattle.vt_load.proofs.laws.each_streamed_request_is_answered_once.Goals as goal

pub returns : goal.returns
returns g c = λ q s d known r x. (exact g.F.File s d known q r x, served g.F.File s d known q r x)

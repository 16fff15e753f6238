use Rattle.std.proofs.Common.{rules}
use Rattle.vt_outside.proofs.real_sink.RealSinkSink.put.Goals as goal

pub returns-clause-faults : goal.returns-clause-faults
returns-clause-faults g c = search rules
